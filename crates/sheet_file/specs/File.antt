-- The bytes of a sheet's file.
use Rattle.std.specs.Prelude.{ℕ, ◌+◌, ◌*◌, List, ◌∷◌, ◌++◌, length}
use Rattle.std.specs.List.{flat_map}
use Rattle.sheet.specs.declared.operand.Operand.{Operand}
use Rattle.sheet.specs.declared.step.Step.{Step}
use Rattle.sheet.specs.declared.sheet.Sheet.{Sheet}
use Rattle.sheet.specs.Parts.{sheet_numerals, sheet_steps, sheet_outputs}
use Rattle.sheet_file.specs.Bytes.{word_bytes, step_bytes, output_bytes}

-- where the steps and the outputs begin, and where the file ends, with h numerals and u steps
abbrev pub steps_start : ℕ → ℕ
steps_start h = 13 + 2 * h

abbrev pub outputs_start : ℕ → ℕ → ℕ
outputs_start h u = 13 + 2 * h + 5 * u

abbrev pub file_length : ℕ → ℕ → ℕ
file_length h u = 13 + 2 * h + 5 * u + 32

-- byte 3, then offset and length of the numerals, of the steps and of the outputs
abbrev pub header_bytes : ℕ → ℕ → List ℕ
header_bytes h u =
    3 ∷ (word_bytes 13 ++ (word_bytes (2 * h) ++ (word_bytes (steps_start h) ++ (word_bytes (5 * u) ++ (word_bytes (outputs_start h u) ++ word_bytes 32)))))

-- the header and the three sections
abbrev pub file_bytes : List ℕ → List Step → List Operand → List ℕ
file_bytes numerals steps outputs =
    header_bytes (length numerals) (length steps) ++ (flat_map word_bytes numerals ++ (flat_map step_bytes steps ++ flat_map output_bytes outputs))

abbrev pub sheet_bytes : Sheet → List ℕ
sheet_bytes s = file_bytes (sheet_numerals s) (sheet_steps s) (sheet_outputs s)
