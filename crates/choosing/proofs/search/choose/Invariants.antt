use Rattle.choosing.specs.Progress.{SoFar}
use Rattle.choosing.proofs.search.choose.Given as goal

abbrev pub invariant-loop-kernel : goal.invariant-loop-kernel
invariant-loop-kernel l = SoFar l.weight l.cards l.kernel 0 l.best
