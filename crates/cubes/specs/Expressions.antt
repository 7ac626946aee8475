-- The rows of an expression, and what it takes in.
use Rattle.std.specs.Prelude.{◌≡◌, ◌<◌, ◌≤◌, List, [], ◌∷◌, ◌++◌, length, take}
use Rattle.cubes.specs.Powers.{power}
use Rattle.cubes.specs.Rows.{most_rows, Apart, Holds}
use Rattle.cubes.specs.declared.expression.Expression.{Expression}
use Rattle.cubes.specs.declared.expression.Refused.{Refused}
use Rattle.cubes.specs.declared.expression.Refused.TheVariants.{Full, Double}
use Rattle.cubes.specs.declared.row.Row.{Row}
use Rattle.few.specs.Listed.{listed}

-- the rows of an expression
abbrev pub rows_of : Expression → List Row
rows_of e = listed e.rows

-- xs are the rows of e, which keeps them few and apart
pub record Rows (e : Expression) (xs : List Row) : Type 0 where
  pub are : xs ≡ rows_of e
  pub few : length xs ≤ most_rows
  pub apart : Apart xs

-- the row x is added at the end
pub record Added (old : List Row) (x : Row) (new : List Row) : Type 0 where
  pub room : length old < most_rows
  pub fresh : Holds old (power x.cube) → ⊥
  pub is : new ≡ old ++ (x ∷ [])

-- the row x is refused: no place is left, or else a row has its cube
abbrev pub Refuses : Refused → List Row → Row → List Row → Type 0
Refuses Full old x new = (length old ≡ most_rows) × (new ≡ old)
Refuses Double old x new = (length old < most_rows) × Holds old (power x.cube) × (new ≡ old)

-- the rows are not those of an expression: there are too many, or else two of the first have the same cube
abbrev pub Unfit : Refused → List Row → Type 0
Unfit Full xs = (most_rows < length xs) × Apart (take most_rows xs)
Unfit Double xs = Apart (take most_rows xs) → ⊥
