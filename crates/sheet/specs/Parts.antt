-- The parts of a sheet, and the rules that they keep.
use Rattle.std.specs.Prelude.{◌≡◌, ℕ, ◌<◌, ◌≤◌, List, length, take, drop, vec_items, slice_index}
use Rattle.sheet.specs.declared.operand.Operand.{Operand}
use Rattle.sheet.specs.declared.step.Step.{Step}
use Rattle.sheet.specs.declared.sheet.Sheet.{Sheet}
use Rattle.sheet.specs.Legal.{LegalSteps, LegalOperands}
use Rattle.sheet.specs.Numerals.{numerals_list}

abbrev pub sheet_numerals : Sheet → List ℕ
sheet_numerals s = numerals_list s.numerals

-- the whole buffer; the steps at its front; what stands behind them
abbrev pub sheet_room : Sheet → List Step
sheet_room s = vec_items s.buffer

abbrev pub sheet_steps : Sheet → List Step
sheet_steps s = take s.used (sheet_room s)

abbrev pub sheet_behind : Sheet → List Step
sheet_behind s = drop s.used (sheet_room s)

abbrev pub sheet_outputs : Sheet → List Operand
sheet_outputs s = s.outputs

-- the rules of a sheet
pub record Lawful (numerals : List ℕ) (steps : List Step) (outputs : List Operand) : Type 0 where
  pub few_numerals : length numerals ≤ 8
  pub large : (k : ℕ) → k < length numerals → 2 ≤ slice_index numerals k
  pub few_steps : length steps ≤ 2000
  pub legal : LegalSteps (length numerals) (length steps) steps
  pub sixteen : length outputs ≡ 16
  pub exist : LegalOperands (length numerals) (length steps) 16 outputs

-- two sheets with the same numerals, steps and outputs
pub record SameSheet (s t : Sheet) : Type 0 where
  pub numerals : sheet_numerals s ≡ sheet_numerals t
  pub steps : sheet_steps s ≡ sheet_steps t
  pub outputs : sheet_outputs s ≡ sheet_outputs t
