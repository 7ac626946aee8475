-- Which operands and steps a sheet may hold.
use Rattle.std.specs.Prelude.{◌≡◌, ℕ, ◌<◌, Bool, true, false, ◌&&◌, List, nat_lt, slice_index_or}
use Rattle.sheet.specs.declared.operand.Operand.{Operand}
use Rattle.sheet.specs.declared.operand.Operand.TheVariants.{Measure, Numeral, One, Zero, ResultOf}
use Rattle.sheet.specs.declared.operation.Operation.{Operation}
use Rattle.sheet.specs.declared.operation.Operation.TheVariants.{Add, Sub, Mul, Neg}
use Rattle.sheet.specs.declared.step.Step.{Step}

-- an operand exists where `held` numerals are held and `before` steps stand before it
abbrev pub legal_operand : ℕ → ℕ → Operand → Bool
legal_operand held before (Measure i) = nat_lt i 8
legal_operand held before (Numeral i) = nat_lt i held
legal_operand held before One = true
legal_operand held before Zero = true
legal_operand held before (ResultOf n) = nat_lt n before

abbrev pub is_zero : Operand → Bool
is_zero (Measure i) = false
is_zero (Numeral i) = false
is_zero One = false
is_zero Zero = true
is_zero (ResultOf n) = false

-- `neg` has zero on its right
abbrev pub right_fits : Operation → Operand → Bool
right_fits Add o = true
right_fits Sub o = true
right_fits Mul o = true
right_fits Neg o = is_zero o

-- a step at the place `at` refers to earlier steps only
abbrev pub legal_step : ℕ → ℕ → Step → Bool
legal_step held at s = legal_operand held at s.left && (legal_operand held at s.right && right_fits s.operation s.right)

-- the first n of the steps are legal, each at its place
abbrev pub LegalSteps : ℕ → ℕ → List Step → Type 0
LegalSteps held n steps = (k : ℕ) (d : Step) → k < n → legal_step held k (slice_index_or steps k d) ≡ true

-- the first n of the operands exist behind `used` steps
abbrev pub LegalOperands : ℕ → ℕ → ℕ → List Operand → Type 0
LegalOperands held used n operands = (k : ℕ) (d : Operand) → k < n → legal_operand held used (slice_index_or operands k d) ≡ true
