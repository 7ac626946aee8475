use Rattle.std.proofs.Common.{refl}
use Rattle.cubes.specs.Powers.{power}
use Rattle.cubes.proofs.Made.{few_rows}
use Rattle.kernels.proofs.Beginnings.{begins}
use Rattle.kernels.proofs.node.Node.first.Goals as goal

pub returns : goal.returns
returns c =
    begins _ (few_rows c.args.e.now) _ c.whole-q.ensures (c.if-not-has_pair.ensures.yes refl)
    (power c.common_cube-cube.result) c.common_cube-cube.ensures _ c.quotient-rest.ensures
