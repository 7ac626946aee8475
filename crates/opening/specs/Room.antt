-- What the rows, the numerals and the number of terms decide, and how a table grows.
use Rattle.std.specs.Prelude.{◌≡◌, ℕ, ◌+◌, ◌<◌, ◌≤◌, Bool, cond, not, ◌||◌, List, [], ◌∷◌, ◌++◌, length, Ok, Err, Result, ◌≢◌, nat_lt}
use Rattle.algebra.specs.Cubes.{Powers as CubePowers, letter, unit}
use Rattle.cubes.specs.Rows.{Holds}
use Rattle.cubes.specs.declared.row.Row.{Row}
use Rattle.rewriting.specs.Book.{holds, with_numeral}
use Rattle.sheet.specs.Numerals.{numerals_list}
use Rattle.table.specs.declared.table.Table.{Table}
use Rattle.table.specs.Of.{rows_at}
use Rattle.opening.specs.declared.refusal.EnterRefusal.{EnterRefusal}
use Rattle.opening.specs.declared.refusal.EnterRefusal.TheVariants.{Formula, Coefficient, Powers, Degree, DoubleCube, FullFormula, FullStyle, NinthNumeral}

-- whether a magnitude is a numeral that is not held
abbrev pub is_new : List ℕ → ℕ → Bool
is_new ns m = not (nat_lt m 2 || holds ns m)

-- the numeral letter of a magnitude that has this place among the numerals, none below 2
abbrev pub numeral_cube : ℕ → ℕ → CubePowers
numeral_cube m p = cond (nat_lt m 2) unit (letter (8 + p))

-- There is room for a cube of magnitude m behind these rows, where so many terms and these numerals are held.
pub record Room (rows : List Row) (cube : CubePowers) (terms : ℕ) (ns : List ℕ) (m : ℕ) : Type 0 where
  pub fresh : Holds rows cube → ⊥
  pub formula : length rows < 8
  pub style : terms < 80
  pub numerals : length (with_numeral ns m) ≤ 8

-- There is none, and this is the first reason.
abbrev pub Lacks : EnterRefusal → List Row → CubePowers → ℕ → List ℕ → ℕ → Type 0
Lacks Formula rows cube terms ns m = ⊥
Lacks Coefficient rows cube terms ns m = ⊥
Lacks Powers rows cube terms ns m = ⊥
Lacks Degree rows cube terms ns m = ⊥
Lacks DoubleCube rows cube terms ns m = Holds rows cube
Lacks FullFormula rows cube terms ns m = (Holds rows cube → ⊥) × (8 ≤ length rows)
Lacks FullStyle rows cube terms ns m = (Holds rows cube → ⊥) × (length rows < 8) × (80 ≤ terms)
Lacks NinthNumeral rows cube terms ns m = (Holds rows cube → ⊥) × (length rows < 8) × (terms < 80) × (8 < length (with_numeral ns m))

abbrev pub RoomChecked : Result (Unit {0}) EnterRefusal → List Row → CubePowers → ℕ → List ℕ → ℕ → Type 0
RoomChecked (Ok _) rows cube terms ns m = Room rows cube terms ns m
RoomChecked (Err why) rows cube terms ns m = Lacks why rows cube terms ns m

-- formula f gains the row x at its end, and nothing else changes (told field by field, here and below, since each change leaves others)
pub record RowAdded (t : Table) (f : ℕ) (x : Row) (t' : Table) : Type 0 where
  pub numerals : t'.numerals ≡ t.numerals
  pub parts : t'.parts ≡ t.parts
  pub order : t'.order ≡ t.order
  pub here : rows_at t' f ≡ rows_at t f ++ x ∷ []
  pub elsewhere : (e : ℕ) → (e ≢ f) → rows_at t' e ≡ rows_at t e

-- the numerals become ns, and nothing else changes
pub record NumeralsSet (t : Table) (ns : List ℕ) (t' : Table) : Type 0 where
  pub expressions : t'.expressions ≡ t.expressions
  pub parts : t'.parts ≡ t.parts
  pub order : t'.order ≡ t.order
  pub numerals : numerals_list t'.numerals ≡ ns
