-- Numbers for which there is no operand and no step.
use Rattle.std.specs.Prelude.{◌≡◌, ℕ, true, ◌≢◌}
use Rattle.sheet.specs.declared.operand.Operand.{Operand}
use Rattle.sheet.specs.declared.step.Step.{Step}
use Rattle.sheet.specs.Numbers.{operand_number, operation_number}
use Rattle.sheet.specs.Legal.{legal_operand, legal_step}

abbrev pub NoOperand : ℕ → ℕ → ℕ → Type 0
NoOperand held before n = (o : Operand) → legal_operand held before o ≡ true → operand_number o ≢ n

abbrev pub NoStep : ℕ → ℕ → ℕ → ℕ → ℕ → Type 0
NoStep held at code left right = (s : Step) → legal_step held at s ≡ true → operation_number s.operation ≡ code → operand_number s.left ≡ left → operand_number s.right ≢ right
