use Rattle.choosing.specs.Progress.{SoFar}
use Rattle.choosing.proofs.search.best_of_kernel.Given as goal

abbrev pub invariant-loop-set : goal.invariant-loop-set
invariant-loop-set l = SoFar l.weight l.cards l.kernel l.set l.best
