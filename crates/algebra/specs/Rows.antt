-- Rows and expressions: a row is a cube with a sign, an expression a list of rows, which stands for their sum.
use Rattle.std.specs.Prelude.{◌≡◌, ℕ, zero, suc, Bool, true, false, not, ◌&&◌, List, [], ◌∷◌, map, filter, nat_le, slice_index_or}
use Rattle.std.specs.List.{AllByRecursion}
use Rattle.algebra.specs.Cubes.{letters, Powers, Same, unit, quotient}
use Rattle.algebra.specs.Sums.{counting, up_to}

pub record Row : Type 0 where
  pub negative : Bool
  pub cube : Powers

-- the sum of the powers
abbrev pub degree : Powers → ℕ
degree c = up_to counting letters c

-- the same sign and the same powers
pub record Alike (r s : Row) : Type 0 where
  pub sign : r.negative ≡ s.negative
  pub cubes : Same r.cube s.cube

-- no two rows have the same cube, signs aside
abbrev pub Distinct : List Row → Type 0
Distinct [] = Unit {0}
Distinct (r ∷ rows) = AllByRecursion (λ (s : Row). Same r.cube s.cube → ⊥) rows × Distinct rows

-- row k, and its cube
abbrev pub row_in : List Row → ℕ → Row
row_in e k = slice_index_or e k (record { negative = false; cube = unit })

abbrev pub cube_in : List Row → ℕ → Powers
cube_in e k = (row_in e k).cube

-- whether a divides b, at the letters below n; at every letter
unfoldable pub divides_below : Powers → Powers → ℕ → Bool
divides_below a b zero = true
divides_below a b (suc n) = nat_le (a n) (b n) && divides_below a b n

abbrev pub divides_test : Powers → Powers → Bool
divides_test a b = divides_below a b letters

-- the rows of e that a divides, the other rows, and the quotients of the former
abbrev pub multiples : Powers → List Row → List Row
multiples a e = filter (λ (r : Row). divides_test a r.cube) e

abbrev pub others : Powers → List Row → List Row
others a e = filter (λ (r : Row). not (divides_test a r.cube)) e

abbrev pub quotient_row : Powers → Row → Row
quotient_row a r = record { negative = r.negative; cube = quotient r.cube a }

abbrev pub quotients : Powers → List Row → List Row
quotients a e = map (quotient_row a) (multiples a e)
