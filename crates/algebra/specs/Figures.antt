-- Kernels of small expressions. The letters a, b, c are the letters 0, 1, 2.
use Rattle.std.specs.Prelude.{ℕ, ◌<◌, List, [], ◌∷◌, length, slice_index_or}
use Rattle.algebra.specs.Cubes.{Powers, Same, Before, unit, letter, product}
use Rattle.algebra.specs.Kernels.{KernelAt}

abbrev pub at_place : List Powers → ℕ → Powers
at_place cubes k = slice_index_or cubes k unit

-- the expression of these cubes has exactly these co-kernels, and they ascend
pub record KernelsAre (cubes co_kernels : List Powers) : Type 0 where
  pub each : (i : ℕ) → i < length co_kernels → KernelAt (length cubes) (at_place cubes) (at_place co_kernels i)
  pub all : (c : Powers) → KernelAt (length cubes) (at_place cubes) c → (i : ℕ) × (i < length co_kernels) × Same c (at_place co_kernels i)
  pub ascend : (i j : ℕ) → i < j → j < length co_kernels → Before (at_place co_kernels i) (at_place co_kernels j)

abbrev pub a : Powers
a = letter 0

abbrev pub b : Powers
b = letter 1

abbrev pub c : Powers
c = letter 2

pub record KernelFigures : Type 0 where
  -- no row, and one row
  pub none : KernelsAre [] []
  pub one : (row : Powers) → KernelsAre (row ∷ []) []
  -- ab + ac
  pub two : KernelsAre (product a b ∷ product a c ∷ []) (a ∷ [])
  -- ab + ac + bc
  pub three : KernelsAre (product a b ∷ product a c ∷ product b c ∷ []) (unit ∷ c ∷ b ∷ a ∷ [])
