use Rattle.std.proofs.Common.{◌≡◌, ◌*◌, ◌++◌, length, take, drop}
use Rattle.std.specs.List.{flat_map}
use Rattle.sheet.specs.Legal.{LegalOperands}
use Rattle.sheet_file.specs.Bytes.{output_bytes}
use Rattle.sheet_file.proofs.sections.read_outputs.Given as goal

abbrev pub invariant-loop-k : goal.invariant-loop-k
invariant-loop-k l =
    (flat_map output_bytes (take l.k l.outputs) ++ drop (2 * l.k) l.section.bytes.now ≡ l.section.bytes.now)
    × LegalOperands l.layout.held l.layout.used l.k l.outputs
    × (length l.outputs ≡ 16)
