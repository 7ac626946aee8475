use Rattle.table.specs.Of.{style_of}
use Rattle.sharing.specs.Pairs.{KnownSoFar, at, spot}
use Rattle.sharing.proofs.search.best_second.Given as goal

abbrev pub invariant-loop-e : goal.invariant-loop-e
invariant-loop-e l = KnownSoFar (style_of l.table) (spot l.first) (at l.e 0) l.best
