use Rattle.std.proofs.Common.{◌≡◌, ℕ, ◌+◌, ◌*◌, ◌<◌, ◌≤◌, true, List, [], ◌∷◌, ◌++◌, length, get_or, take, drop, set, sym, refl, ap, ◌∙◌, subst, arith, rules}
use Rattle.std.specs.List.{flat_map}
use Rattle.std.proofs.lemmas.List.{take_rest, length-take-le, length-drop}
use Rattle.sheet.specs.Legal.{legal_step, LegalSteps}
use Rattle.sheet_file.specs.Bytes.{step_bytes}
use Rattle.sheet_file.specs.Reading.{StepEntry, entry}
use Rattle.sheet_file.proofs.Rows.{five_first, entry_here, row_more_set, row_all, below_set, behind_more}
use Rattle.sheet_file.proofs.sections.fill_steps.Goals as goal

pub returns-in_default-step : goal.returns-in_default-step
returns-in_default-step c =
    let left = c.loop-left.left.now in
    let n = c.loop-left.n in
    let buffer = c.loop-left.buffer in
    let section = c.args.section.bytes.now in
    let long : 5 ≤ length left = search rules in
    let within : n ≤ length buffer = search rules in
    let many : length (take n buffer) ≡ n = length-take-le n buffer within in
    let here = entry_here step_bytes 5 (λ s. refl) (take n buffer) left section c.loop-left.invariant.1 in
    let first : take 5 left ≡ get_or left 0 0 ∷ get_or left 1 0 ∷ get_or left 2 0 ∷ get_or left 3 0 ∷ get_or left 4 0 ∷ [] = ap (take 5) (five_first left long) in
    let good = c.requires.good n (omega (arith, c.loop-left.invariant.0)) in
    absurd (c.in_default-step.ensures (subst (StepEntry c.args.layout.held n) (ap (entry 5 section) (sym many) ∙ here ∙ first) good))

pub loop-left-preserved : goal.loop-left-preserved
loop-left-preserved c =
    let left = c.loop-left.left.now in
    let n = c.loop-left.n in
    let s = c.in-Some.step in
    let buffer = c.loop-left.buffer in
    let section = c.args.section.bytes.now in
    let start = c.args.buffer.now in
    let held = c.args.layout.held in
    let long : 5 ≤ length left = search rules in
    let within : n < length buffer = search rules in
    let e = c.in-Some.ensures in
    let split : left ≡ step_bytes s ++ drop 5 left = five_first left long ∙ ap (λ (bs : List ℕ). bs ++ drop 5 left) (sym e.1) in
    let G : List ℕ → Type 0 = λ rest. (5 * (n + 1) + length rest ≡ length section) × (flat_map step_bytes (take (n + 1) (set buffer n s)) ++ rest ≡ section) × LegalSteps held (n + 1) (set buffer n s) × (drop (n + 1) (set buffer n s) ≡ drop (n + 1) start) in
    subst G (sym (take_rest left 5)) (
      (let d : length (drop 5 left) + 5 ≡ length left = simp length-drop (omega arith) in omega arith),
      row_more_set step_bytes n buffer s left (drop 5 left) section within c.loop-left.invariant.1 split,
      below_set (λ k x. legal_step held k x ≡ true) buffer n s within c.loop-left.invariant.2 e.0,
      behind_more n buffer start s c.loop-left.invariant.3,
    )

pub returns : goal.returns
returns c =
    let left = c.loop-left.left.now in
    let none : length left ≡ 0 = search rules in
    record {
      count = c.loop-left.n;
      whole = omega arith;
      bytes = row_all step_bytes (take c.loop-left.n c.loop-left.buffer) left c.args.section.bytes.now c.loop-left.invariant.1 none;
      legal = c.loop-left.invariant.2;
      behind = c.loop-left.invariant.3;
    }
