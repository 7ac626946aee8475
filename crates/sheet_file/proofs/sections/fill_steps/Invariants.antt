use Rattle.std.proofs.Common.{◌≡◌, ◌+◌, ◌*◌, ◌++◌, length, take, drop}
use Rattle.std.specs.List.{flat_map}
use Rattle.sheet.specs.Legal.{LegalSteps}
use Rattle.sheet_file.specs.Bytes.{step_bytes}
use Rattle.sheet_file.proofs.sections.fill_steps.Given as goal

abbrev pub invariant-loop-left : goal.invariant-loop-left
invariant-loop-left l =
    (5 * l.n + length l.left ≡ length l.section.bytes.now)
    × (flat_map step_bytes (take l.n l.buffer) ++ l.left ≡ l.section.bytes.now)
    × LegalSteps l.layout.held l.n l.buffer
    × (drop l.n l.buffer ≡ drop l.n l.initial.buffer)

abbrev pub decreases-loop-left : goal.decreases-loop-left
decreases-loop-left l = length l.left
