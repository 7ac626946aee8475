-- Names of signed cubes.
use Rattle.std.specs.Prelude.{◌≡◌, ℕ, true, cond, List, [], ◌∷◌, ◌++◌, map, vec_items}
use Rattle.algebra.specs.Rows.{Row}
use Rattle.cubes.specs.Rows.{as_row}
use Rattle.dealing.specs.declared.entry.Entry.{Entry}
use Rattle.dealing.specs.declared.names.Names.{Names}
use Rattle.rewriting.specs.Taking.{found, spot}

-- the rows that have names
abbrev pub entry_row : Entry → Row
entry_row x = as_row x.row

abbrev pub named_rows : Names → List Row
named_rows x = map entry_row (vec_items x.entries)

-- the row r has the name n, the first place of a row that is alike, and was added behind the others if there was none
pub record Naming (old : List Row) (r : Row) (n : ℕ) (new : List Row) : Type 0 where
  pub kept : new ≡ cond (found old r) old (old ++ r ∷ [])
  pub named : found new r ≡ true
  pub name : n ≡ spot new r

-- rows were only added behind
abbrev pub Grown : List Row → List Row → Type 0
Grown old new = (more : List Row) × (new ≡ old ++ more)
