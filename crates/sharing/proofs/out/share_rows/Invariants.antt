use Rattle.cubes.specs.Powers.{power}
use Rattle.sharing.proofs.Outs.{SharedBelow}
use Rattle.sharing.proofs.out.share_rows.Given as goal

abbrev pub invariant-loop-x : goal.invariant-loop-x
invariant-loop-x l = SharedBelow (power l.cube) l.x-index l.table l.x-items
