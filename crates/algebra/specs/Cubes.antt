-- Cubes by their powers: a power for each letter.
use Rattle.std.specs.Prelude.{◌≡◌, ℕ, ◌+◌, ◌-◌, ◌<◌, ◌≤◌, min, cond, ◌==◌}

-- how many letters there are
abbrev pub letters : ℕ
letters = 32

abbrev pub Powers : Type 0
Powers = ℕ → ℕ

-- equal powers of every letter
abbrev pub Same : Powers → Powers → Type 0
Same a b = (l : ℕ) → l < letters → a l ≡ b l

abbrev pub Divides : Powers → Powers → Type 0
Divides a b = (l : ℕ) → l < letters → a l ≤ b l

-- the cube 1, a letter alone, product, quotient, greatest common cube
abbrev pub unit : Powers
unit = λ l. 0

abbrev pub letter : ℕ → Powers
letter j = λ l. cond (l == j) 1 0

abbrev pub product : Powers → Powers → Powers
product a b = λ l. a l + b l

abbrev pub quotient : Powers → Powers → Powers
quotient b a = λ l. b l - a l

abbrev pub common : Powers → Powers → Powers
common a b = λ l. min (a l) (b l)

-- a comes before b: compared from letter 0, smaller power first
abbrev pub Before : Powers → Powers → Type 0
Before a b = (l : ℕ) × (l < letters) × (a l < b l) × ((k : ℕ) → k < l → a k ≡ b k)
