-- Expressions anew, for a part that is given by its powers; the theory has them for a part that is given by its letter's number.
use Rattle.std.specs.Prelude.{◌≡◌, ℕ, ◌<◌, ◌≤◌, Bool, ◌⊎◌, List, ◌++◌, map, length}
use Rattle.std.specs.List.{AllZip, ContainsAt as Has}
use Rattle.algebra.specs.Cubes.{Powers, product}
use Rattle.algebra.specs.Rows.{Alike, Distinct, Row as Term}
use Rattle.cubes.specs.Powers.{Passes}
use Rattle.cubes.specs.Rows.{as_rows, most_rows}
use Rattle.rewriting.specs.Factor.{Taken, covered, has, taken_in, without}
use Rattle.table.specs.Of.{rows_at, standing_in}
use Rattle.table.specs.declared.table.Table.{Table}

-- the row that stands for a taken kernel: co-kernel times part (the theory's word, by powers in place of a letter)
abbrev pub part_row : Bool → Powers → Taken → Term
part_row negative part t = record { negative = negative; cube = product t.co_kernel part }

-- an expression's rows, with the taken kernels of this expression (likewise)
abbrev pub anew : Bool → Powers → List Taken → List Term → List Term
anew negative part ts rows = without (has (covered ts)) rows ++ map (part_row negative part) ts

-- a product of co-kernel and part is too high
abbrev pub Overflows : List Taken → Powers → Type 0
Overflows taken part = (t : Taken) × Has taken t × Passes (product t.co_kernel part)

-- too many rows, or two with the same cube
abbrev pub Crowded : List Term → Type 0
Crowded rows = length rows ≤ most_rows → Distinct rows → ⊥

-- why expression e is not made anew
abbrev pub Unmade : Bool → Powers → List Taken → ℕ → List Term → Type 0
Unmade negative part taken e rows = Overflows taken part ⊎ Crowded (anew negative part (taken_in e taken) rows)

-- every expression of a table anew; all else is as it was (told field by field, since each change leaves others)
pub record AllAnew (negative : Bool) (part : Powers) (taken : List Taken) (old new : Table) : Type 0 where
  pub rows : (e : ℕ) → e < standing_in old → AllZip Alike (anew negative part (taken_in e taken) (as_rows (rows_at old e))) (as_rows (rows_at new e))
  pub numerals : new.numerals ≡ old.numerals
  pub parts : new.parts ≡ old.parts
  pub order : new.order ≡ old.order

abbrev pub OneUnmade : Bool → Powers → List Taken → Table → Type 0
OneUnmade negative part taken old = (e : ℕ) × (e < standing_in old) × Unmade negative part taken e (as_rows (rows_at old e))
