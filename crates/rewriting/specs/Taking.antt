-- Which kernels a column set takes, through the list in order.
use Rattle.std.specs.Prelude.{ℕ, zero, suc, Bool, true, false, cond, not, ◌&&◌, ◌||◌, List, [], ◌∷◌, ◌++◌, map, ◌==◌}
use Rattle.algebra.specs.Cubes.{Powers, letters}
use Rattle.algebra.specs.Rows.{Row}
use Rattle.rewriting.specs.Factor.{Taken, covered, has, product_row, taken_in}
use Rattle.rewriting.specs.Styles.{Style}

-- a kernel by its name: the quotient of the expression by the co-kernel
pub record Kernel : Type 0 where
  pub expression : ℕ
  pub co_kernel : Powers

-- whether two rows are alike
abbrev pub same_sign : Bool → Bool → Bool
same_sign true b = b
same_sign false b = not b

unfoldable pub same_below : Powers → Powers → ℕ → Bool
same_below a b zero = true
same_below a b (suc n) = a n == b n && same_below a b n

abbrev pub alike : Row → Row → Bool
alike r s = same_sign r.negative s.negative && same_below r.cube s.cube letters

-- whether a list has a row, and its first place (the book's words are over numbers, which are equal or not; rows are alike)
abbrev pub found : List Row → Row → Bool
found [] r = false
found (x ∷ xs) r = alike x r || found xs r

abbrev pub spot : List Row → Row → ℕ
spot [] r = 0
spot (x ∷ xs) r = cond (alike x r) 0 (suc (spot xs r))

-- the kernel has every column: co-kernel times column is a row of the expression; and the places of those rows
abbrev pub has_columns : List Row → Powers → List Row → Bool
has_columns rows c [] = true
has_columns rows c (col ∷ cols) = found rows (product_row c col) && has_columns rows c cols

abbrev pub spots : List Row → Powers → List Row → List ℕ
spots rows c columns = map (λ (col : Row). spot rows (product_row c col)) columns

-- none of some places is among those given
abbrev pub uncovered : List ℕ → List ℕ → Bool
uncovered gone [] = true
uncovered gone (k ∷ ks) = not (has gone k) && uncovered gone ks

-- the kernel as it is taken, whether it is taken after others, and all that are
abbrev pub take_of : Style → List Row → Kernel → Taken
take_of s columns k = record { expression = k.expression; co_kernel = k.co_kernel; places = spots (s.expression k.expression) k.co_kernel columns }

abbrev pub takes_next : Style → List Row → List Taken → Kernel → Bool
takes_next s columns taken k =
    has_columns (s.expression k.expression) k.co_kernel columns
    && uncovered (covered (taken_in k.expression taken)) (spots (s.expression k.expression) k.co_kernel columns)

abbrev pub taken_after : Style → List Row → List Taken → List Kernel → List Taken
taken_after s columns taken [] = taken
taken_after s columns taken (k ∷ ks) = taken_after s columns (cond (takes_next s columns taken k) (taken ++ take_of s columns k ∷ []) taken) ks

abbrev pub taken_by : Style → List Row → List Kernel → List Taken
taken_by s columns kernels = taken_after s columns [] kernels
