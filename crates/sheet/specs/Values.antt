-- What operands, steps and outputs are worth in a ring, at a setting of the measures.
use Rattle.std.specs.Prelude.{◌≡◌, ℕ, ◌<◌, List, length, slice_index, slice_index_or}
use Rattle.ring.specs.Ring.{CommRing, ones_sum}
use Rattle.sheet.specs.declared.operand.Operand.{Operand}
use Rattle.sheet.specs.declared.operand.Operand.TheVariants.{Measure, Numeral, One, Zero, ResultOf}
use Rattle.sheet.specs.declared.operation.Operation.{Operation}
use Rattle.sheet.specs.declared.operation.Operation.TheVariants.{Add, Sub, Mul, Neg}
use Rattle.sheet.specs.declared.step.Step.{Step}

-- an operation on two values; `sub` adds the opposite, and `neg` takes the left one alone
abbrev pub operate : {S : Type 0} → CommRing S → Operation → S → S → S
operate c Add x y = c.plus x y
operate c Sub x y = c.plus x (c.opposite y)
operate c Mul x y = c.times x y
operate c Neg x y = c.opposite x

module _ {S : Type 0} (c : CommRing S) (numerals : List ℕ) (measures : List S) where
  -- what an operand is worth, where the results of the steps are `cells`
  abbrev pub operand_value : List S → Operand → S
  operand_value cells (Measure i) = slice_index_or measures i c.zero
  operand_value cells (Numeral i) = ones_sum c (slice_index numerals i)
  operand_value cells One = c.one
  operand_value cells Zero = c.zero
  operand_value cells (ResultOf n) = slice_index_or cells n c.zero

  abbrev pub step_value : List S → Step → S
  step_value cells s = operate c s.operation (operand_value cells s.left) (operand_value cells s.right)

  -- the law of a run: cell k is the operation of step k on what its operands are worth, for each k below n
  abbrev pub StepValues : List Step → ℕ → List S → Type 0
  StepValues steps n cells = (k : ℕ) (d : Step) → k < n → slice_index_or cells k c.zero ≡ step_value cells (slice_index_or steps k d)

  -- each of the first n values is what its operand is worth
  abbrev pub OutputValues : List S → List Operand → ℕ → List S → Type 0
  OutputValues cells operands n values = (k : ℕ) (d : Operand) → k < n → slice_index_or values k c.zero ≡ operand_value cells (slice_index_or operands k d)

  -- the law leaves one value for each cell: any cells that keep it agree with these
  abbrev pub OnlyCells : List Step → List S → Type 0
  OnlyCells steps cells = (others : List S) → StepValues steps (length steps) others → (k : ℕ) → k < length steps → slice_index_or others k c.zero ≡ slice_index_or cells k c.zero
