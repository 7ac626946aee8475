-- What the steps of a style promise, as the contracts name it.
use Rattle.std.specs.Prelude.{◌≡◌, ℕ, ◌+◌, ◌<◌, ◌≤◌, List, length, get_or, slice_index_or}
use Rattle.ring.specs.Ring.{CommRing}
use Rattle.sheet.specs.declared.operand.Operand.TheVariants.{Zero}
use Rattle.sheet.specs.declared.step.Step.{Step}
use Rattle.sheet.specs.Counting.{adds, how_many, multiplies, negates}
use Rattle.sheet.specs.Legal.{LegalOperands, LegalSteps}
use Rattle.sheet.specs.Values.{StepValues, operand_value}
use Rattle.algebra.specs.Counts.{additions, multiplications, negations}
use Rattle.algebra.specs.Worth.{worth}
use Rattle.rewriting.specs.Closed.{Closed}
use Rattle.rewriting.specs.Order.{Ordered}
use Rattle.rewriting.specs.Styles.{Fits, Style, over}
use Rattle.emission.specs.Steps.{emit_outputs, emit_steps}

-- the steps and the outputs of a style
abbrev pub steps_of : Style → List ℕ → List Step
steps_of s order = emit_steps s.expression order

-- Cells that keep the law of the steps give the letters values that fit the style, and each output is worth its formula under them.
pub record EmittedValues {S : Type 0} (c : CommRing S) (measures cells : List S) (s : Style) (order : List ℕ) : Type 0 where
  pub value : ℕ → S
  pub fits : Fits c (λ l. get_or measures l c.zero) value s
  pub formulas : (f : ℕ) → f < 16
      → operand_value c s.numerals measures cells (slice_index_or (emit_outputs s.expression order) f Zero) ≡ worth c value (s.expression f)

-- of every closed style with no more numerals than there are letters for them
abbrev pub EmitValues : {S : Type 0} → CommRing S → Type 0
EmitValues {S} c =
    (s : Style) (order : List ℕ) → Closed s → Ordered s order → length s.numerals ≤ 8 → (measures cells : List S)
    → StepValues c s.numerals measures (steps_of s order) (length (steps_of s order)) cells
    → EmittedValues c measures cells s order

-- The steps refer to earlier steps and to numerals held, and so do the outputs.
abbrev pub EmitLegal : Type 0
EmitLegal =
    (s : Style) (order : List ℕ) → Closed s → Ordered s order
    → LegalSteps (length s.numerals) (length (steps_of s order)) (steps_of s order)
    × LegalOperands (length s.numerals) (length (steps_of s order)) 16 (emit_outputs s.expression order)

-- There are as many steps of each sort as the style takes operations.
pub record EmittedCounts (s : Style) (order : List ℕ) : Type 0 where
  pub mul : how_many multiplies (steps_of s order) ≡ over multiplications s
  pub add : how_many adds (steps_of s order) ≡ over additions s
  pub neg : how_many negates (steps_of s order) ≡ over negations s
  pub all : length (steps_of s order) ≡ over multiplications s + over additions s + over negations s
  pub outputs : length (emit_outputs s.expression order) ≡ 16

abbrev pub EmitCounts : Type 0
EmitCounts = (s : Style) (order : List ℕ) → Ordered s order → EmittedCounts s order
