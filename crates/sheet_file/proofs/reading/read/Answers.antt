use Rattle.std.proofs.Common.{Result, Ok, Err, MatchResult, vec_len, ◌≡◌, ℕ, ◌*◌, ◌<◌, ◌≤◌, List, length, get_or, take, drop, sym, refl, ap, ◌∙◌, subst, subst₂, arith, rules}
use Rattle.std.specs.Prelude.{IsErrAnd}
use Rattle.std.proofs.lemmas.List.{with_items_is, length-take-le}
use Rattle.sheet.specs.declared.step.Step.{Step}
use Rattle.sheet.specs.Numerals.{numerals_list}
use Rattle.sheet.specs.declared.sheet.Sheet.{Sheet}
use Rattle.sheet.specs.Parts.{sheet_numerals, sheet_steps, sheet_outputs, sheet_behind, SameSheet}
use Rattle.sheet_file.specs.File.{sheet_bytes}
use Rattle.sheet_file.specs.declared.reading.ReadRefused.{ReadRefused}
use Rattle.sheet_file.specs.Bytes.{word_bytes, step_bytes, output_bytes}
use Rattle.std.specs.List.{flat_map}
use Rattle.sheet.specs.Legal.{LegalSteps, LegalOperands}
use Rattle.sheet.proofs.Rules.{none_broken}
use Rattle.sheet_file.specs.Reading.{StepEntry, AllGood, RefusedAt}
use Rattle.sheet_file.proofs.Files.{whole_file, held_is}
use Rattle.sheet_file.proofs.Known.{known_not_refused, same_sheet}
use Rattle.sheet_file.proofs.reading.read.Goals as goal

-- a result with another error, where no error can come
no_error : {T E F : Type 0} (G : Result T F → Type 0) (Q : E → F → Type 0) (r : Result T E) (t : Result T F) → MatchResult r (λ x. t ≡ Ok x) (λ e. IsErrAnd t (Q e)) → ((x : T) → r ≡ Ok x → G (Ok x)) → ((e : E) → r ≡ Err e → ⊥) → G t
no_error G Q (Ok x) t e ok err = subst G (sym e) (ok x refl)
no_error G Q (Err e) t h ok err = absurd (err e refl)

pub returns-in-Err : goal.returns-in-Err
returns-in-Err c =
    let why = subst (λ (n : ℕ). RefusedAt c.in-Err.fault.why c.in-Err.fault.place c.args.file.now n) c.len.ensures c.in-Err.ensures in
    record {
      answer = (refl, why);
      known = λ s same fits. known_not_refused s c.args.file.now c.in-Err.fault.why c.in-Err.fault.place _ same fits why;
    }

pub fill_steps-requires-clause-good : goal.fill_steps-requires-clause-good
fill_steps-requires-clause-good c =
    subst (λ (xs : List ℕ). AllGood 5 (StepEntry c.in-Ok.checked.layout.held) xs) (sym c.steps.ensures.bytes) c.in-Ok.ensures.steps

pub returns : goal.returns
returns c =
    let file = c.args.file.now in
    let passed = c.in-Ok.ensures in
    let layout = passed.opened.layout in
    let held = c.in-Ok.checked.layout.held in
    let used = c.in-Ok.checked.layout.used in
    let last = c.fill_steps.new.buffer in
    let filled = c.fill_steps.ensures in
    let kept : length last ≡ c.args.buffer.len = search rules in
    let items = with_items_is c.args.buffer last kept in
    let long : length c.steps.result.bytes.now ≡ 5 * used = c.steps.ensures.long in
    let whole = filled.whole in
    let count : filled.count ≡ used = omega arith in
    let fits = passed.opened.fits in
    let len = c.len.ensures in
    let room : used ≤ length last = omega arith in
    let same_held = held_is file held used (numerals_list c.in-Ok.checked.numerals) layout passed.numerals in
    let small : (i : ℕ) → get_or file i 0 < 256 = λ i. search rules in
    let ReadIs : Result Sheet ReadRefused → Type 0 = λ r. ((elim r [ Ok s ↦ (sheet_bytes s ≡ file) × (sheet_behind s ≡ drop (length (sheet_steps s)) c.args.buffer.items) | Err e ↦ (e.buffer ≡ c.args.buffer) × RefusedAt e.why e.place file (vec_len c.args.buffer) ]) × ((s : Sheet) → sheet_bytes s ≡ file → length (sheet_steps s) ≤ vec_len c.args.buffer → elim r [ Ok t ↦ SameSheet s t | Err _ ↦ ⊥ ])) in
    let both = no_error ReadIs _ c.make.result c.map_err.result c.map_err.ensures.cases
    (λ s e.
    let made = rw e at c.make.ensures in
    let steps : sheet_steps s ≡ take used last = made.steps_kept ∙ ap (take used) items in
    let many : length (sheet_steps s) ≡ used = ap length steps ∙ length-take-le used last room in
    let numerals : sheet_numerals s ≡ numerals_list c.in-Ok.checked.numerals = made.numerals_kept in
    let bytes = whole_file file held used (sheet_numerals s) (sheet_steps s) (sheet_outputs s) small layout
    (ap length numerals ∙ same_held) many
    (ap (flat_map word_bytes) numerals ∙ passed.numerals)
    (ap (flat_map step_bytes) steps ∙ ap (λ (n : ℕ). flat_map step_bytes (take n last)) (sym count) ∙ filled.bytes ∙ c.steps.ensures.bytes)
    (ap (flat_map output_bytes) made.outputs_kept ∙ passed.outputs) in
    ((bytes, made.behind_kept ∙ ap (drop used) items ∙ subst (λ (n : ℕ). drop n last ≡ drop n c.deref_mut.result.now) count filled.behind ∙ (λ i. drop (sym many i) (c.deref_mut.ensures.value i))), λ t same fits. same_sheet t s (same ∙ sym bytes)))
    (λ refused e.
    let broken = rw e at c.make.ensures in
    none_broken refused.why _ _ used _ _ layout.steps.0 (omega arith)
    (subst₂ (λ (h : ℕ) (xs : List Step). LegalSteps h used xs) (sym same_held) (sym items) (subst (λ (n : ℕ). LegalSteps held n last) count filled.legal))
    (subst (λ (h : ℕ). LegalOperands h used 16 c.in-Ok.checked.outputs) (sym same_held) passed.exist)
    broken.1) in
    record { answer = both.0; known = both.1 }
