use Rattle.std.proofs.Common.{◌≡◌, ◌≤◌, ◌++◌, length, drop}
use Rattle.few.specs.Listed.{listed}
use Rattle.choosing.specs.Sets.{chosen}
use Rattle.choosing.proofs.walk.pick.Given as goal

abbrev pub invariant-loop-c : goal.invariant-loop-c
invariant-loop-c l = (length (listed l.picked) ≤ l.c-index)
    × (listed l.picked ++ chosen l.rest (drop l.c-index l.c-items) ≡ chosen l.set (listed l.columns))
