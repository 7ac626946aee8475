-- How many operations it takes to work an expression out.
use Rattle.std.specs.Prelude.{ℕ, zero, suc, Bool, true, cond, ◌&&◌, List, [], ◌∷◌, length}
use Rattle.algebra.specs.Sums.{counting, total}
use Rattle.algebra.specs.Rows.{Row, degree}

-- n things are joined by one operation less, and none by none
abbrev pub less_one : ℕ → ℕ
less_one zero = 0
less_one (suc n) = n

-- of a row: its degree less one, none for degree 0; of an expression: of its rows
abbrev pub row_multiplications : Row → ℕ
row_multiplications r = less_one (degree r.cube)

abbrev pub multiplications : List Row → ℕ
multiplications e = total counting row_multiplications e

-- rows less one, none for no rows
abbrev pub additions : List Row → ℕ
additions e = less_one (length e)

-- one where there are rows and all are negative
abbrev pub all_negative : List Row → Bool
all_negative [] = true
all_negative (r ∷ rows) = r.negative && all_negative rows

abbrev pub negations : List Row → ℕ
negations [] = 0
negations (r ∷ rows) = cond (all_negative (r ∷ rows)) 1 0
