-- What becomes a sheet, and which rule is broken where nothing does.
use Rattle.std.specs.Prelude.{◌≡◌, ℕ, ◌<◌, ◌≤◌, List, take, drop}
use Rattle.sheet.specs.declared.operand.Operand.{Operand}
use Rattle.sheet.specs.declared.step.Step.{Step}
use Rattle.sheet.specs.declared.sheet.Sheet.{Sheet}
use Rattle.sheet.specs.declared.refusal.Refusal.{Refusal}
use Rattle.sheet.specs.declared.refusal.Refusal.TheVariants.{Layout, ShortBuffer, SmallNumeral, IllegalStep, IllegalOutput}
use Rattle.sheet.specs.Legal.{LegalSteps, LegalOperands}
use Rattle.sheet.specs.Parts.{sheet_numerals, sheet_steps, sheet_behind, sheet_outputs}

-- the sheet of these numerals, the first `used` steps of this buffer and these outputs
pub record Made (numerals : List ℕ) (buffer : List Step) (used : ℕ) (outputs : List Operand) (s : Sheet) : Type 0 where
  pub numerals_kept : sheet_numerals s ≡ numerals
  pub steps_kept : sheet_steps s ≡ take used buffer
  pub behind_kept : sheet_behind s ≡ drop used buffer
  pub outputs_kept : sheet_outputs s ≡ outputs

-- the first rule that is broken, where `held` numerals are held and the buffer has `room` places
abbrev pub Broken : Refusal → ℕ → ℕ → List Step → ℕ → List Operand → Type 0
Broken Layout held room buffer used outputs = 2000 < used
Broken ShortBuffer held room buffer used outputs = (used ≤ 2000) × (room < used)
Broken SmallNumeral held room buffer used outputs = ⊥
Broken IllegalStep held room buffer used outputs = (used ≤ 2000) × (used ≤ room) × (LegalSteps held used buffer → ⊥)
Broken IllegalOutput held room buffer used outputs = (used ≤ 2000) × (used ≤ room) × LegalSteps held used buffer × (LegalOperands held used 16 outputs → ⊥)

-- all rules are kept
pub record Kept (held room : ℕ) (buffer : List Step) (used : ℕ) (outputs : List Operand) : Type 0 where
  pub few : used ≤ 2000
  pub fits : used ≤ room
  pub legal : LegalSteps held used buffer
  pub exist : LegalOperands held used 16 outputs
