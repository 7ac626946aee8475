use Rattle.table.specs.Of.{style_of}
use Rattle.sharing.specs.Pairs.{KnownSoFar, at}
use Rattle.sharing.proofs.search.best_cube.Given as goal

abbrev pub invariant-loop-e : goal.invariant-loop-e
invariant-loop-e l = KnownSoFar (style_of l.table) (at l.e 0) (at 0 0) l.best
