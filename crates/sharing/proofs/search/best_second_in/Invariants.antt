use Rattle.table.specs.Of.{style_of}
use Rattle.sharing.specs.Pairs.{KnownSoFar, at, spot}
use Rattle.sharing.proofs.search.best_second_in.Given as goal

abbrev pub invariant-loop-row : goal.invariant-loop-row
invariant-loop-row l = KnownSoFar (style_of l.table) (spot l.first) (at l.e l.row) l.best
