use Rattle.std.proofs.Common.{arith}
use Rattle.kernels.specs.Joins.{JoinedFrom}
use Rattle.kernels.proofs.Joins.{alike_from}
use Rattle.kernels.proofs.Uniques.{filled}
use Rattle.kernels.proofs.list.list.Goals as goal

pub returns : goal.returns
returns c =
    filled (JoinedFrom c.args.first c.args.expressions.now) (alike_from c.args.first c.args.expressions.now)
    _ _ _ _ _ (omega arith) c.if-n-out.false c.run_all-n.ensures c.run_all.ensures
