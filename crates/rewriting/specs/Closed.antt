-- What holds of every closed style.
use Rattle.std.specs.Prelude.{◌≡◌, ℕ, ◌+◌, ◌<◌, ◌≤◌, cond, List, length}
use Rattle.std.specs.List.{AllByRecursion}
use Rattle.algebra.specs.Cubes.{letters}
use Rattle.algebra.specs.Rows.{Distinct, Row, degree}
use Rattle.algebra.specs.Sums.{counting, total}
use Rattle.rewriting.specs.Styles.{Style, standing}

-- how many rows are positive
abbrev pub positives : List Row → ℕ
positives e = total counting (λ (r : Row). cond r.negative 0 1) e

-- only the letters below n occur
abbrev pub Below : ℕ → Row → Type 0
Below n r = (l : ℕ) → n ≤ l → l < letters → r.cube l ≡ 0

abbrev pub Low : Row → Type 0
Low r = degree r.cube ≤ 25

-- no numeral letter from 8 + k on occurs
abbrev pub Held : ℕ → Row → Type 0
Held k r = (l : ℕ) → 8 + k ≤ l → l < 16 → r.cube l ≡ 0

-- of one expression where k numerals are held and the letters below n stand
pub record Tidy (k n : ℕ) (e : List Row) : Type 0 where
  pub few : length e ≤ 8
  pub apart : Distinct e
  pub known : AllByRecursion (Below n) e
  pub low : AllByRecursion Low e
  pub held : AllByRecursion (Held k) e

-- At most sixteen parts; every expression that stands has at most eight rows, no two with the same cube, letters of numerals
-- held and of parts that stand only, and degrees of at most 25; every part has a positive row.
pub record Closed (s : Style) : Type 0 where
  pub few_parts : s.parts ≤ 16
  pub tidy : (e : ℕ) → e < standing s → Tidy (length s.numerals) (standing s) (s.expression e)
  pub positive_parts : (k : ℕ) → k < s.parts → 1 ≤ positives (s.expression (16 + k))
