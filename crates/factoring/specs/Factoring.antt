-- A set of columns taken out of a style.
use Rattle.std.specs.Prelude.{◌≡◌, ℕ, ◌+◌, ◌≤◌, ◌⊎◌, List, length}
use Rattle.algebra.specs.Cubes.{letter}
use Rattle.algebra.specs.Rows.{Row}
use Rattle.kernels.specs.declared.kernel.Kernel.{Kernel}
use Rattle.rewriting.specs.Choosing.{column_set, taken_with}
use Rattle.rewriting.specs.Factor.{Taken, factored}
use Rattle.rewriting.specs.Order.{factored_from, put}
use Rattle.rewriting.specs.Presses.{Like}
use Rattle.table.specs.Of.{order_of, standing_in, style_of}
use Rattle.table.specs.declared.table.Table.{Table}
use Rattle.factoring.specs.Rewrites.{Crowded, Overflows}
use Rattle.kernels.specs.Named.{as_kernels}
use Rattle.factoring.specs.declared.factored.Factored.{Factored}

-- what factor leads to: the rewritten style, with the new part just before the first expression that it was taken from
pub record Factors (t : Table) (columns : List Row) (taken : List Taken) (new : Table) : Type 0 where
  pub style : Like (factored (style_of t) columns taken) (style_of new)
  pub order : order_of new ≡ put (factored_from taken) (standing_in t) (order_of t)
  pub parts : new.parts ≡ t.parts + 1

-- why there is none: no part is left; an expression of the rewritten style has too many rows, or two with the same cube;
-- or co-kernel times part is too high
pub data Unfactored (t : Table) (columns : List Row) (taken : List Taken) : Type 0 where
  no_part : t.parts ≡ 16 → Unfactored t columns taken
  crowded : (e : ℕ) → e ≤ standing_in t → Crowded ((factored (style_of t) columns taken).expression e) → Unfactored t columns taken
  too_high : Overflows taken (letter (standing_in t)) → Unfactored t columns taken

module _ (t : Table) (kernels : List Kernel) (p n : ℕ) where
  -- the columns that n names of the kernel at the place p, and the kernels taken with them
  abbrev pub set_in : List Row
  set_in = column_set (style_of t) (as_kernels kernels) p n

  abbrev pub taken_for : List Taken
  taken_for = taken_with (style_of t) (as_kernels kernels) p n

  pub record TakesOut (f : Factored) : Type 0 where
    pub factors : Factors t set_in taken_for f.table
    pub rows : f.rows ≡ length taken_for
    pub columns : f.columns ≡ length set_in

  -- there is no such kernel, or there is no such style
  abbrev pub Untaken : Type 0
  Untaken = (length kernels ≤ p) ⊎ Unfactored t set_in taken_for
