-- The numbers of operands, operations and refusals, a line for each case.
use Rattle.std.specs.Prelude.{◌≡◌, ℕ, ◌+◌, true, ◌≢◌, Result, MatchResult}
use Rattle.sheet.specs.declared.operand.Operand.{Operand}
use Rattle.sheet.specs.declared.operand.UnknownOperand.{UnknownOperand}
use Rattle.sheet.specs.declared.operand.Operand.TheVariants.{Measure, Numeral, One, Zero, ResultOf}
use Rattle.sheet.specs.declared.operation.Operation.{Operation}
use Rattle.sheet.specs.declared.operation.UnknownOperation.{UnknownOperation}
use Rattle.sheet.specs.declared.operation.Operation.TheVariants.{Add, Sub, Mul, Neg}
use Rattle.sheet.specs.declared.refusal.Refusal.{Refusal}
use Rattle.sheet.specs.declared.refusal.Refusal.TheVariants.{Layout, ShortBuffer, SmallNumeral, IllegalStep, IllegalOutput}
use Rattle.sheet.specs.Legal.{legal_operand}

abbrev pub operand_number : Operand → ℕ
operand_number (Measure i) = i
operand_number (Numeral i) = 8 + i
operand_number One = 16
operand_number Zero = 17
operand_number (ResultOf n) = 32 + n

abbrev pub operation_number : Operation → ℕ
operation_number Add = 1
operation_number Sub = 2
operation_number Mul = 3
operation_number Neg = 4

abbrev pub refusal_number : Refusal → ℕ
refusal_number Layout = 18
refusal_number ShortBuffer = 19
refusal_number SmallNumeral = 20
refusal_number IllegalStep = 21
refusal_number IllegalOutput = 22

-- the operation with a number, or an error with a number that no operation has
abbrev pub OperationNumbered : ℕ → Result Operation UnknownOperation → Type 0
OperationNumbered n r = MatchResult r (λ o. operation_number o ≡ n) (λ e. (e.0 ≡ n) × ((o : Operation) → operation_number o ≢ n))

-- an operand that exists in some sheet: of eight numerals, behind as many steps as 16 bits count
abbrev pub Exists : Operand → Type 0
Exists o = legal_operand 8 65536 o ≡ true

-- the operand with a number, or an error with a number that no operand has which exists in some sheet
abbrev pub OperandNumbered : ℕ → Result Operand UnknownOperand → Type 0
OperandNumbered n r = MatchResult r (λ o. Exists o × (operand_number o ≡ n)) (λ e. (e.0 ≡ n) × ((o : Operand) → Exists o → operand_number o ≢ n))
