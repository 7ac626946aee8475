-- A cube shared out of a table.
use Rattle.std.specs.Prelude.{◌≡◌, ℕ, ◌<◌, ◌⊎◌, map}
use Rattle.std.specs.List.{AllZip}
use Rattle.algebra.specs.Cubes.{Powers, letters}
use Rattle.algebra.specs.Rows.{Alike}
use Rattle.cubes.specs.Rows.{as_rows}
use Rattle.cubes.specs.Shares.{Lacks}
use Rattle.rewriting.specs.Order.{put, shared_from}
use Rattle.rewriting.specs.Presses.{Like}
use Rattle.rewriting.specs.Share.{shared, shared_row}
use Rattle.table.specs.declared.table.Table.{Table}
use Rattle.table.specs.Of.{order_of, rows_at, standing_in, style_of}

-- the rows of every expression that stands, with the cube shared out; all else is as it was (told field by field, since each change leaves others)
pub record AllShared (c : Powers) (old new : Table) : Type 0 where
  pub rows : (e : ℕ) → e < standing_in old → AllZip Alike (as_rows (rows_at new e)) (map (shared_row (standing_in old) c) (as_rows (rows_at old e)))
  pub numerals : new.numerals ≡ old.numerals
  pub parts : new.parts ≡ old.parts
  pub order : new.order ≡ old.order

-- there is no letter left, or some row has the next part's letter
abbrev pub LetterThere : Table → Type 0
LetterThere t = (e : ℕ) × (e < standing_in t) × (standing_in t < letters → Lacks (standing_in t) (rows_at t e) → ⊥)

-- the style with the cube shared out, and its making order
pub record SharedOut (c : Powers) (old new : Table) : Type 0 where
  pub room : old.parts < 16
  pub style : Like (shared (style_of old) c) (style_of new)
  pub order : order_of new ≡ put (shared_from (style_of old) c) (standing_in old) (order_of old)

abbrev pub NotShared : Table → Type 0
NotShared t = (t.parts ≡ 16) ⊎ LetterThere t
