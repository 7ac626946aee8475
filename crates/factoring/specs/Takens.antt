-- Taken kernels, as the rules of rewriting have them.
use Rattle.std.specs.Prelude.{ℕ, Bool, cond, not, ◌&&◌, List, [], ◌∷◌, ◌++◌, map}
use Rattle.algebra.specs.Cubes.{Powers}
use Rattle.algebra.specs.Rows.{Row}
use Rattle.few.specs.Listed.{listed}
use Rattle.cubes.specs.Powers.{power}
use Rattle.rewriting.specs.Factor.{Taken, has, product_row}
use Rattle.rewriting.specs.Styles.{Style}
use Rattle.rewriting.specs.Taking.{Kernel as Named, found, has_columns, spot, spots, take_of, takes_next, uncovered}
use Rattle.factoring.specs.declared.taken.TakenKernel.{TakenKernel}

-- a taken kernel, and those of a list
abbrev pub as_taken : TakenKernel → Taken
as_taken t = record { expression = t.expression; co_kernel = power t.cokernel; places = listed t.places }

abbrev pub as_takens : List TakenKernel → List Taken
as_takens ts = map as_taken ts

-- the row behind a column is there, and is none of those that are gone
abbrev pub open_at : List Row → Powers → List ℕ → Row → Bool
open_at rows c gone column = found rows (product_row c column) && not (has gone (spot rows (product_row c column)))

-- so of every column
abbrev pub all_open : List Row → Powers → List ℕ → List Row → Bool
all_open rows c gone columns = has_columns rows c columns && uncovered gone (spots rows c columns)

-- those taken, after one kernel more was looked at
abbrev pub looked : Style → List Row → List Taken → Named → List Taken
looked s columns taken k = cond (takes_next s columns taken k) (taken ++ take_of s columns k ∷ []) taken
