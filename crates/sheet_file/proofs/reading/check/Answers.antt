use Rattle.std.proofs.Common.{ℕ, ◌+◌, List, sym, ap, ◌∙◌, subst, rules}
use Rattle.sheet.specs.declared.refusal.Refusal.{Refusal}
use Rattle.sheet_file.specs.Reading.{StepEntry, OutputEntry, AllGood, FirstBad, RefusedAt}
use Rattle.sheet_file.proofs.Known.{numerals_good}
use Rattle.sheet_file.proofs.reading.check.Goals as goal

pub returns-in_err-check_steps : goal.returns-in_err-check_steps
returns-in_err-check_steps c =
    let numerals = numerals_good c.in_ok-numerals.numerals _ (c.in_ok-numerals.ensures ∙ c.numerals.ensures.bytes) in
    search rules

pub returns-in_err-outputs : goal.returns-in_err-outputs
returns-in_err-outputs c =
    let fault = c.in_err-outputs.field-0.0 in
    let bad = c.in_err-outputs.ensures in
    let held = c.in_ok-layout.layout.held in
    let used = c.in_ok-layout.layout.used in
    let refused : RefusedAt fault.why fault.place c.args.file.now c.args.room = subst (λ (why : Refusal). RefusedAt why fault.place c.args.file.now c.args.room) (sym bad.reason) (
      held,
      used,
      bad.at,
      record { layout = c.in_ok-layout.ensures; fits = c.if-room-layout.false },
      bad.place ∙ ap (λ (n : ℕ). n + bad.at) c.outputs.ensures.start,
      numerals_good c.in_ok-numerals.numerals _ (c.in_ok-numerals.ensures ∙ c.numerals.ensures.bytes),
      subst (λ (xs : List ℕ). AllGood 5 (StepEntry held) xs) c.steps.ensures.bytes c.in_ok-check_steps.ensures,
      subst (λ (xs : List ℕ). FirstBad 2 (OutputEntry held used) xs bad.at) c.outputs.ensures.bytes bad.first,
    ) in
    search rules

pub returns : goal.returns
returns c =
    let read = c.in_ok-outputs.ensures in
    record {
      opened = record { layout = c.in_ok-layout.ensures; fits = c.if-room-layout.false };
      numerals = c.in_ok-numerals.ensures ∙ c.numerals.ensures.bytes;
      steps = subst (λ (xs : List ℕ). AllGood 5 (StepEntry c.in_ok-layout.layout.held) xs) c.steps.ensures.bytes c.in_ok-check_steps.ensures;
      outputs = read.1 ∙ c.outputs.ensures.bytes;
      sixteen = read.0;
      exist = read.2;
    }
