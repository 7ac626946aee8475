use Rattle.std.proofs.Common.{◌≡◌, take}
use Rattle.kernels.specs.Joins.{JoinedFrom}
use Rattle.kernels.specs.Lists.{Written}
use Rattle.kernels.proofs.list.run_all.Given as goal

-- the lists of the expressions so far
abbrev pub invariant-loop-k : goal.invariant-loop-k
invariant-loop-k l = (l.listing.out.ghost_name ≡ l.initial.listing.out.ghost_name)
    × Written (JoinedFrom l.first (take l.k l.expressions)) 0 l.initial.listing.out.now l.listing.out.now l.listing.count
