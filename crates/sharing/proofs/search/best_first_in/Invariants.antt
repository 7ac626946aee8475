use Rattle.table.specs.Of.{style_of}
use Rattle.sharing.specs.Pairs.{KnownSoFar, at}
use Rattle.sharing.proofs.search.best_first_in.Given as goal

abbrev pub invariant-loop-row : goal.invariant-loop-row
invariant-loop-row l = KnownSoFar (style_of l.table) (at l.e l.row) (at 0 0) l.best
