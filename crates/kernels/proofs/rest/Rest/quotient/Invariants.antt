use Rattle.std.proofs.Common.{◌≡◌, ℕ, ◌<◌, ◌≤◌, None, length, get_or}
use Rattle.cubes.specs.Powers.{power}
use Rattle.cubes.specs.Rows.{most_rows}
use Rattle.kernels.specs.Rests.{SlotQuotient, slot}
use Rattle.kernels.proofs.rest.Rest.quotient.Given as goal

abbrev pub invariant-loop-k : goal.invariant-loop-k
invariant-loop-k l = (length l.slots ≡ most_rows)
    × ((k : ℕ) → k < l.k → SlotQuotient (slot l.self k) (power l.c) (get_or l.slots k None))
    × ((k : ℕ) → l.k ≤ k → get_or l.slots k None ≡ None)
