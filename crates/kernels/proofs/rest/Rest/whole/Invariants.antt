use Rattle.std.proofs.Common.{◌≡◌, ℕ, ◌<◌, ◌≤◌, true, false, None, is_some, length, get_or}
use Rattle.cubes.specs.Rows.{most_rows, no_row}
use Rattle.kernels.specs.Rests.{cube_left}
use Rattle.kernels.proofs.rest.Rest.whole.Given as goal

abbrev pub invariant-loop-k : goal.invariant-loop-k
invariant-loop-k l = (length l.slots ≡ most_rows)
    × ((k : ℕ) → k < l.k → (is_some (get_or l.slots k None) ≡ true) × (cube_left (get_or l.slots k None) ≡ (get_or l.row-items k no_row).cube))
    × ((k : ℕ) → k < most_rows → l.k ≤ k → is_some (get_or l.slots k None) ≡ false)
