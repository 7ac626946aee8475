-- One part more.
use Rattle.std.specs.Prelude.{◌≡◌, ℕ, ◌+◌, ◌<◌, Bool, false, List, slice_index_or}
use Rattle.std.specs.List.{insert}
use Rattle.cubes.specs.declared.row.Row.{Row}
use Rattle.rewriting.specs.Order.{put}
use Rattle.table.specs.declared.table.Table.{Table}
use Rattle.table.specs.Of.{order_of, rows_at, standing_in}

-- expression e is marked
abbrev pub source : List Bool → ℕ → Bool
source marks e = slice_index_or marks e false

-- the part has these rows, it stands in the order before the first expression that is named, and all else is as it was
pub record AddsPart (named : ℕ → Bool) (part : List Row) (old new : Table) : Type 0 where
  pub room : old.parts < 16
  pub rows : (e : ℕ) → e < standing_in old → rows_at new e ≡ rows_at old e
  pub part_rows : rows_at new (standing_in old) ≡ part
  pub numerals : new.numerals ≡ old.numerals
  pub parts : new.parts ≡ old.parts + 1
  pub order : order_of new ≡ put named (standing_in old) (order_of old)

-- the part has these rows, it stands at this place of the order, and all else is as it was
pub record AddsPartAt (at : ℕ) (part : List Row) (old new : Table) : Type 0 where
  pub room : old.parts < 16
  pub rows : (e : ℕ) → e < standing_in old → rows_at new e ≡ rows_at old e
  pub part_rows : rows_at new (standing_in old) ≡ part
  pub numerals : new.numerals ≡ old.numerals
  pub parts : new.parts ≡ old.parts + 1
  pub order : order_of new ≡ insert (order_of old) at (standing_in old)
