-- The bytes of numerals, steps and outputs.
use Rattle.std.specs.Prelude.{ℕ, ◌/◌, ◌%◌, List, [], ◌∷◌, ◌++◌}
use Rattle.sheet.specs.declared.operand.Operand.{Operand}
use Rattle.sheet.specs.declared.step.Step.{Step}
use Rattle.sheet.specs.Numbers.{operand_number, operation_number}

-- a number of 16 bits, the low byte first
abbrev pub word_bytes : ℕ → List ℕ
word_bytes n = n % 256 ∷ n / 256 ∷ []

abbrev pub output_bytes : Operand → List ℕ
output_bytes o = word_bytes (operand_number o)

-- the operation, the left operand and the right one
abbrev pub step_bytes : Step → List ℕ
step_bytes s = operation_number s.operation ∷ (word_bytes (operand_number s.left) ++ word_bytes (operand_number s.right))
