use Rattle.std.proofs.Common.{◌≡◌, ◌≤◌}
use Rattle.cubes.specs.Powers.{power}
use Rattle.kernels.specs.Lists.{Written}
use Rattle.kernels.specs.Search.{Kernels, total}
use Rattle.kernels.proofs.search.Listing.+search.Given as goal

abbrev pub decreases-search : goal.decreases-search
decreases-search l = total l.node.now.rest

-- the list so far, written over what the loop found
abbrev pub invariant-loop-j : goal.invariant-loop-j
invariant-loop-j l = (l.i ≤ l.j) × (l.self.out.ghost_name ≡ l.fn.self.out.ghost_name)
    × Written (Kernels l.number l.node.rest (power l.node.cube) l.j) l.fn.self.count l.initial.self.out.now l.self.out.now l.self.count
