-- The powers of a cube, and words about powers.
use Rattle.std.specs.Prelude.{ℕ, ◌<◌, slice_index}
use Rattle.algebra.specs.Cubes.{letters, Powers, Same, Divides, quotient}
use Rattle.cubes.specs.declared.cube.Cube.{Cube}

-- the power of each letter in a cube
abbrev pub power : Cube → Powers
power c = λ l. slice_index c.powers l

-- a does not divide b: some letter has a larger power in a
abbrev pub Misses : Powers → Powers → Type 0
Misses a b = (l : ℕ) × (l < letters) × (b l < a l)

-- every power fits a byte
abbrev pub Bytes : Powers → Type 0
Bytes a = (l : ℕ) → l < letters → a l < 256

-- some power is too large for a byte
abbrev pub Passes : Powers → Type 0
Passes a = (l : ℕ) × (l < letters) × (255 < a l)

-- b divided by a: a divides b, and r is the quotient of b, whose powers are bytes
pub record Divided (b a r : Powers) : Type 0 where
  pub divides : Divides a b
  pub is : Same r (quotient b a)
  pub bytes : Bytes b
