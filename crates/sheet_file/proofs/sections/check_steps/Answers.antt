use Rattle.std.proofs.Common.{◌≡◌, ℕ, ◌+◌, ◌*◌, ◌<◌, ◌≤◌, List, [], ◌∷◌, length, get_or, take, drop, sym, refl, ap, ◌∙◌, subst, arith, rules, below_more}
use Rattle.std.proofs.lemmas.List.{take_rest, length-drop, drop-drop}
use Rattle.sheet_file.specs.Reading.{StepEntry, entry}
use Rattle.sheet_file.proofs.Rows.{five_first}
use Rattle.sheet_file.proofs.sections.check_steps.Goals as goal

-- the five bytes of the entry that is read
first : (n : ℕ) (section left : List ℕ) → drop (5 * n) section ≡ left → 5 ≤ length left → entry 5 section n ≡ get_or left 0 0 ∷ get_or left 1 0 ∷ get_or left 2 0 ∷ get_or left 3 0 ∷ get_or left 4 0 ∷ []
first n section left here long = ap (take 5) (here ∙ five_first left long)

pub returns-in_default-step : goal.returns-in_default-step
returns-in_default-step c =
    let left = c.loop-left.left.now in
    let n = c.loop-left.n in
    let section = c.args.section.bytes.now in
    let long : 5 ≤ length left = search rules in
    let whole = c.loop-left.invariant.0 in
    record {
      reason = refl;
      at = 5 * n;
      place = refl;
      first = record {
        number = n;
        place = refl;
        within = omega arith;
        before = c.loop-left.invariant.2;
        bad = λ good. c.in_default-step.ensures (subst (StepEntry c.args.layout.held n) (first n section left c.loop-left.invariant.1 long) good);
      };
    }

pub loop-left-preserved : goal.loop-left-preserved
loop-left-preserved c =
    let left = c.loop-left.left.now in
    let n = c.loop-left.n in
    let section = c.args.section.bytes.now in
    let held = c.args.layout.held in
    let long : 5 ≤ length left = search rules in
    let whole = c.loop-left.invariant.0 in
    let e = c.in-Some.ensures in
    let more : 5 * (n + 1) ≡ 5 * n + 5 = omega arith in
    let G : List ℕ → Type 0 = λ rest. (5 * (n + 1) + length rest ≡ length section) × (drop (5 * (n + 1)) section ≡ rest) × ((k : ℕ) → k < n + 1 → StepEntry held k (entry 5 section k)) in
    subst G (sym (take_rest left 5)) (
      (let d : length (drop 5 left) + 5 ≡ length left = simp length-drop (omega arith) in omega arith),
      ap (λ (m : ℕ). drop m section) more ∙ sym (drop-drop 5 (5 * n) section) ∙ ap (drop 5) c.loop-left.invariant.1,
      below_more (λ k. StepEntry held k (entry 5 section k)) n c.loop-left.invariant.2 (c.in-Some.field-0, e.0, e.1 ∙ sym (first n section left c.loop-left.invariant.1 long)),
    )

pub returns : goal.returns
returns c k h =
    let whole = c.loop-left.invariant.0 in
    let none : length c.loop-left.left.now ≡ 0 = search rules in
    c.loop-left.invariant.2 k (omega arith)
