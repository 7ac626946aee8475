use Rattle.cubes.specs.Powers.{power}
use Rattle.few.specs.Listed.{listed}
use Rattle.cubes.proofs.Shared.{SharedBefore}
use Rattle.cubes.proofs.expression.Expression.share.Given as goal

abbrev pub invariant-loop-k : goal.invariant-loop-k
invariant-loop-k l = SharedBefore l.letter (power l.cube) l.row-items (listed l.rows) l.k l.n
