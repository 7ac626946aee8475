use Rattle.std.proofs.Common.{◌≡◌, ℕ, ◌+◌, ◌*◌, ◌<◌, length, drop}
use Rattle.sheet_file.specs.Reading.{entry, StepEntry}
use Rattle.sheet_file.proofs.sections.check_steps.Given as goal

abbrev pub invariant-loop-left : goal.invariant-loop-left
invariant-loop-left l =
    (5 * l.n + length l.left ≡ length l.section.bytes.now)
    × (drop (5 * l.n) l.section.bytes.now ≡ l.left)
    × ((k : ℕ) → k < l.n → StepEntry l.layout.held k (entry 5 l.section.bytes.now k))

abbrev pub decreases-loop-left : goal.decreases-loop-left
decreases-loop-left l = length l.left
