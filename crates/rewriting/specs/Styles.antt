-- Styles, values of the letters that fit them, and their counts. A style holds sixteen formulas and at most sixteen parts.
use Rattle.std.specs.Prelude.{◌≡◌, ℕ, zero, suc, ◌+◌, ◌<◌, Bool, true, false, cond, List, length, slice_index}
use Rattle.ring.specs.Ring.{CommRing, ones_sum}
use Rattle.algebra.specs.Counts.{additions, multiplications, negations}
use Rattle.algebra.specs.Rows.{Row}
use Rattle.algebra.specs.Sums.{counting, up_to}
use Rattle.algebra.specs.Worth.{worth}

-- Expressions 0 to 15 are the formulas; expression 16 + k is part k, of which the first `parts` stand, and its letter is 16 + k.
pub record Style : Type 0 where
  pub numerals : List ℕ
  pub parts : ℕ
  pub expression : ℕ → List Row

-- how many expressions stand, the formulas with them; also the number and the letter of the next part
abbrev pub standing : Style → ℕ
standing s = 16 + s.parts

-- The letters' values fit a style: each measure is as set, each numeral so many ones, each part what its rows are worth.
-- Letters 0 to 7 are the measures, 8 to 15 the numerals, 16 to 31 the parts.
pub record Fits {S : Type 0} (c : CommRing S) (measures : ℕ → S) (value : ℕ → S) (s : Style) : Type 0 where
  pub set : (l : ℕ) → l < 8 → value l ≡ measures l
  pub counted : (k : ℕ) → k < length s.numerals → value (8 + k) ≡ ones_sum c (slice_index s.numerals k)
  pub made : (k : ℕ) → k < s.parts → value (16 + k) ≡ worth c value (s.expression (16 + k))

-- whether two numbers are the same, by cases, so that the theory's proofs go along it
abbrev pub equal : ℕ → ℕ → Bool
equal zero zero = true
equal zero (suc n) = false
equal (suc m) zero = false
equal (suc m) (suc n) = equal m n

-- one part more, and each expression that stood replaced by its next
abbrev pub with_part : Style → (ℕ → List Row) → List Row → Style
with_part s next part = record {
  numerals = s.numerals;
  parts = s.parts + 1;
  expression = λ e. cond (equal e (standing s)) part (next e);
}

-- counted over all expressions that stand
abbrev pub over : (List Row → ℕ) → Style → ℕ
over count s = up_to counting (standing s) (λ e. count (s.expression e))

-- Under values that fit s' the style s is worth the same: they fit it too, and each of its expressions has the worth that it has in s'.
pub record Kept {S : Type 0} (c : CommRing S) (measures value : ℕ → S) (s s' : Style) : Type 0 where
  pub fits : Fits c measures value s
  pub values : (e : ℕ) → e < standing s → worth c value (s.expression e) ≡ worth c value (s'.expression e)

-- s' takes m multiplications and a additions less than s, and as many negations: expression by expression, and in all
pub record Lowers (s s' : Style) (m a : ℕ) : Type 0 where
  pub fewer_multiplications : over multiplications s ≡ over multiplications s' + m
  pub fewer_additions : over additions s ≡ over additions s' + a
  pub negations_stay : (e : ℕ) → e < standing s → negations (s.expression e) ≡ negations (s'.expression e)
  pub as_many_negations : over negations s ≡ over negations s'

-- the same of a style with one part more, which has no negation
pub record Saves (s s' : Style) (m a : ℕ) : Type 0 where
  pub lowers : Lowers s s' m a
  pub part_positive : negations (s'.expression (standing s)) ≡ 0
