-- How a number and a pair are written.
use Rattle.std.specs.Prelude.{◌≡◌, ℕ, ◌+◌, ◌%◌, ◌^◌, ◌<◌, ◌⊎◌, List, ◌∷◌, ◌++◌, length, decimal}
use Rattle.std.specs.Str.Parse.{AllDigits, digits_value}

-- the text is one or more of the digits 0 to 9, and they write n in base ten
pub record Decimal (text : List ℕ) (n : ℕ) : Type 0 where
  pub some : 0 < length text
  pub digits : AllDigits 10 text
  pub writes : digits_value 10 text ≡ n

-- the text is a minus and then the digits of a number n below m, and x is the opposite of n modulo m
pub record Negated (m : ℕ) (text : List ℕ) (x : ℕ) : Type 0 where
  pub digits : List ℕ
  pub n : ℕ
  pub minus : text ≡ 45 ∷ digits
  pub number : Decimal digits n
  pub small : n < m
  pub cancels : (x + n) % m ≡ 0

-- the text spells x, one of the numbers below m: it is the digits of x, or a minus and the digits of what x is the opposite of
pub record Signed (m : ℕ) (text : List ℕ) (x : ℕ) : Type 0 where
  pub below : x < m
  pub written : Decimal text x ⊎ Negated m text x

-- the text spells a word v, then has a colon, and then spells a word r
pub record Paired (text : List ℕ) (v r : ℕ) : Type 0 where
  pub left : List ℕ
  pub right : List ℕ
  pub colon : text ≡ left ++ (58 ∷ right)
  pub first : Signed (2 ^ 32) left v
  pub second : Signed (2 ^ 32) right r

-- two numbers in decimal, with a space between them
abbrev pub spaced : ℕ → ℕ → List ℕ
spaced v r = decimal v ++ (32 ∷ decimal r)
