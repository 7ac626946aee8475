-- Rows: cubes with a sign. What is said of a list of rows is said by places.
use Rattle.std.specs.Prelude.{ℕ, ◌<◌, Bool, true, false, List, [], map, length, count_by, slice_index_or}
use Rattle.algebra.specs.Cubes.{Powers, Same}
use Rattle.algebra.specs.Rows.{Row as Term, divides_test}
use Rattle.cubes.specs.Powers.{power}
use Rattle.cubes.specs.declared.row.Row.{Row}
use Rattle.cubes.specs.declared.row.Sign.{Sign}
use Rattle.cubes.specs.declared.row.Sign.TheVariants.{Plus, Minus}

-- how many rows an expression has at most
abbrev pub most_rows : ℕ
most_rows = 8

-- what stands past the last row
abbrev pub no_row : Row
no_row = record { cube = record { powers = [] }; sign = Plus }

-- the powers of the row at the place k
abbrev pub powers_at : List Row → ℕ → Powers
powers_at xs k = power (slice_index_or xs k no_row).cube

-- no two rows have the same cube, signs aside
abbrev pub Apart : List Row → Type 0
Apart xs = (j k : ℕ) → j < k → k < length xs → Same (powers_at xs j) (powers_at xs k) → ⊥

-- one of the rows has the powers a
abbrev pub Holds : List Row → Powers → Type 0
Holds xs a = (k : ℕ) × (k < length xs) × Same (powers_at xs k) a

-- how many rows a cube divides (of structs; rewriting counts rows of the theory, and sharing proves that they agree)
abbrev pub divided_rows : Powers → List Row → ℕ
divided_rows a xs = count_by (λ x. divides_test a (power x.cube)) xs

-- a row, as the algebra of expressions has it: its sign and its powers
abbrev pub minus : Sign → Bool
minus Plus = false
minus Minus = true

abbrev pub as_row : Row → Term
as_row x = record { negative = minus x.sign; cube = power x.cube }

abbrev pub as_rows : List Row → List Term
as_rows xs = map as_row xs
