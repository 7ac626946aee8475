use Rattle.std.proofs.Common.{ℕ, ◌<◌}
use Rattle.algebra.specs.Cubes.{letters}
use Rattle.cubes.specs.Powers.{power}
use Rattle.kernels.proofs.Lows.{Low}
use Rattle.kernels.proofs.rest.Rest.common_cube.Given as goal

abbrev pub invariant-loop-slot : goal.invariant-loop-slot
invariant-loop-slot l = (j : ℕ) → j < letters → Low l.self j l.slot-index (power l.common j)
