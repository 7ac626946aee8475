-- What is left of an expression's rows, each at its place.
use Rattle.std.specs.Prelude.{◌≡◌, ℕ, ◌<◌, ◌≤◌, true, false, Option, Some, None, is_some, List, length, get_or, slice_index_or}
use Rattle.algebra.specs.Cubes.{letters, Powers}
use Rattle.cubes.specs.declared.cube.Cube.{Cube}
use Rattle.cubes.specs.declared.row.Row.{Row}
use Rattle.cubes.specs.Powers.{power, Misses, Divided}
use Rattle.cubes.specs.Rows.{most_rows, no_row}
use Rattle.kernels.specs.declared.rest.Rest.{Rest}

-- the cube of a row that is left
abbrev pub cube_left : Option Cube → Cube
cube_left (Some c) = c
cube_left None = no_row.cube

-- the place k: a cube while its row is left
abbrev pub slot : Rest → ℕ → Option Cube
slot q k = slice_index_or q.slots k None

-- the powers of the row at the place k
abbrev pub row : Rest → ℕ → Powers
row q k = power (cube_left (slot q k))

-- the row at the place k is left
abbrev pub Live : Rest → ℕ → Type 0
Live q k = (k < most_rows) × (is_some (slot q k) ≡ true)

-- r is what is left of the row s when c is divided out
pub record SlotQuotient (s : Option Cube) (c : Powers) (r : Option Cube) : Type 0 where
  pub kept : is_some r ≡ true → (is_some s ≡ true) × Divided (power (cube_left s)) c (power (cube_left r))
  pub left : is_some s ≡ true → is_some r ≡ false → Misses c (power (cube_left s))

-- r is the quotient of q by c: every row that c divides, divided by c
abbrev pub Quotient : Rest → Powers → Rest → Type 0
Quotient q c r = (k : ℕ) → k < most_rows → SlotQuotient (slot q k) c (slot r k)

-- two rows are left, or not
abbrev pub Pair : Rest → Type 0
Pair q = (k : ℕ) × (m : ℕ) × (k < m) × Live q k × Live q m

abbrev pub Lone : Rest → Type 0
Lone q = (k m : ℕ) → k < m → Live q k → Live q m → ⊥

-- p is the lowest power of the letter l in a row
pub record Lowest (q : Rest) (l p : ℕ) : Type 0 where
  pub each : (k : ℕ) → Live q k → p ≤ row q k l
  pub tight : (k : ℕ) × Live q k × (row q k l ≡ p)

-- c is the greatest cube that divides every row
abbrev pub Greatest : Rest → Powers → Type 0
Greatest q c = (l : ℕ) → l < letters → Lowest q l (c l)

-- every row of e is left, at its place
pub record Spread (e : List Row) (q : Rest) : Type 0 where
  pub at : (k : ℕ) → k < length e → (is_some (slot q k) ≡ true) × (cube_left (slot q k) ≡ (get_or e k no_row).cube)
  pub past : (k : ℕ) → k < most_rows → length e ≤ k → is_some (slot q k) ≡ false
