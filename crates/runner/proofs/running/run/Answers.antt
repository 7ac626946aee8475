use Rattle.std.proofs.Common.{◌≡◌, ℕ, List, map, length, drop, ap, ◌∙◌, subst, subst₂}
use mathlib.Core.Path.{subst₃}
use Rattle.sheet.specs.declared.operand.Operand.{Operand}
use Rattle.sheet.specs.declared.step.Step.{Step}
use Rattle.sheet.specs.Parts.{sheet_numerals, sheet_steps}
use Rattle.sheet.specs.Values.{StepValues, OutputValues}
use Rattle.sheet.proofs.Determined.{only_cells}
use Rattle.runner.proofs.running.run.Goals as goal

pub returns-clause-ran : goal.returns-clause-ran
returns-clause-ran g c =
    let m = g.R.Ring in
    let sheet = c.args.sheet.now in
    let settings = map m.meaning c.args.measures.now in
    let cells = map m.meaning c.run_steps.new.bench.cells.now in
    let values = map m.meaning c.run_outputs.new.outputs in
    let lawful = c.steps-steps.ensures.lawful in
    let steps_are = c.steps-steps.ensures.value in
    let numerals_are = c.numerals.ensures in
    let sixteen : length c.outputs.result.now ≡ 16 = ap length c.outputs.ensures ∙ lawful.sixteen in
    let kept : StepValues m.ring (sheet_numerals sheet) settings (sheet_steps sheet) (length (sheet_steps sheet)) cells = subst₂ (λ (ns : List ℕ) (ss : List Step). StepValues m.ring ns settings ss (length ss) cells) numerals_are steps_are c.run_steps.ensures.steps in
    record {
      steps = kept;
      only = only_cells m.ring (sheet_numerals sheet) settings (length (sheet_numerals sheet)) (sheet_steps sheet) cells lawful.legal kept;
      outputs = subst₃ (λ (ns : List ℕ) (os : List Operand) (n : ℕ). OutputValues m.ring ns settings cells os n values) numerals_are c.outputs.ensures sixteen c.run_outputs.ensures;
      behind = subst (λ (ss : List Step). drop (length ss) c.run_steps.new.bench.cells.now ≡ drop (length ss) c.args.bench.now.cells.now) steps_are c.run_steps.ensures.behind;
    }
