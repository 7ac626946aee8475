use Rattle.std.proofs.Common.{Iter, ◌≡◌, ℕ, ◌+◌, ◌<◌, cond, List, [], ◌∷◌, ◌++◌, map, length, get_or, string_bytes, sym, ap, ◌∙◌, zero-add, arith}
use Rattle.std.specs.List.{zip, enumerate_from}
use Rattle.std.specs.Iterator.Adapters.{enumerate_steps}
use Rattle.std.specs.declared.iter.Enumerate.{Enumerate}
use Rattle.std.specs.declared.iter.Zip.{Zip}
use Rattle.std.proofs.iter.Yields.{fronts}
use Rattle.std.proofs.lemmas.Iterator.{YieldsList, zips, YieldsList-from_slice, YieldsList-from_zip}
use Rattle.std.proofs.lemmas.Iterator.Consumers.{YieldsList-from_enumerate, YieldsList-turn}
use Rattle.std.proofs.lemmas.List.{get_or-map, get_or_default, length-append}
use Rattle.std.proofs.lemmas.List.FromFn.{length-enumerate_from, get_or-enumerate_from}
use Rattle.std.proofs.lemmas.Slice.Zip.{length-zip, get_or-zip}
use Rattle.sheet.specs.declared.operand.Operand.{Operand}
use Rattle.sheet.specs.declared.operand.Operand.TheVariants.{Zero}
use Rattle.sheet.specs.Legal.{is_zero}
use Rattle.sheet.specs.Parts.{sheet_steps, sheet_outputs}
use Rattle.tablet.specs.Telling.{counts_line, out_line, formula_line}
use Rattle.tablet.proofs.Texts.{lines_more, lines_to, no_lines}
use Rattle.tablet.proofs.telling.report.Goals as goal

-- what a loop over two slices, with the number of the turn, goes over
over : {R : Type 0} (s : Enumerate (Zip (Iter Operand) (Iter R))) (os : List Operand) (vs : List R) → s.iter.a.rest.now ≡ os → s.iter.b.rest.now ≡ vs → s.count ≡ 0 → YieldsList {B = ℕ × (Operand × R)} (enumerate_steps (zips fronts fronts)) (λ p. (p.0, (p.1.0.now, p.1.1.now))) s (enumerate_from 0 (zip os vs))
over s os vs first second none = YieldsList-from_enumerate {s = s} (YieldsList-from_zip (YieldsList-from_slice os first) (YieldsList-from_slice vs second)) none

-- what a turn over two lists, with the number of the turn, is given
turn_at : {X Y : Type 0} (os : List X) (vs : List Y) (n f : ℕ) (o : X) (v : Y) → n < length (enumerate_from 0 (zip os vs)) → (f, (o, v)) ≡ get_or (enumerate_from 0 (zip os vs)) n (f, (o, v)) → (f ≡ n) × (o ≡ get_or os n o) × (v ≡ get_or vs n v) × (n < length os) × (n < length vs)
turn_at {X} {Y} os vs n f o v within h =
    let z = zip os vs in
    let many = length-enumerate_from 0 z in
    let least = length-zip os vs in
    let among : n < length z = omega arith in
    let a : n < length os = omega arith in
    let b : n < length vs = omega arith in
    let e : ◌≡◌ {A = ℕ × (X × Y)} (f, (o, v)) (0 + n, (get_or os n o, get_or vs n v)) = h ∙ get_or-enumerate_from 0 z n (f, (o, v)) among ∙ ap (λ (p : X × Y). (0 + n, p)) (get_or-zip os vs n (o, v) a b) in
    (ap (λ (p : ℕ × (X × Y)). p.0) e ∙ zero-add n, ap (λ (p : ℕ × (X × Y)). p.1.0) e, ap (λ (p : ℕ × (X × Y)). p.1.1) e, a, b)

-- the line that a turn adds is the formula's
line_here : (outputs : List Operand) (values : List (List ℕ)) (n f : ℕ) (o : Operand) (text more value : List ℕ) → f ≡ n → o ≡ get_or outputs n o → n < length outputs → value ≡ get_or values n [] → more ≡ text ++ cond (is_zero o) [] (out_line f value) → more ≡ text ++ formula_line outputs values n
line_here outputs values n f o text more value same here within shown added =
    let at : o ≡ get_or outputs n Zero = here ∙ get_or_default outputs n o Zero within in
    added ∙ (λ i. text ++ cond (is_zero (at i)) [] (out_line (same i) (shown i)))

pub loop-f-init : goal.loop-f-init
loop-f-init g c = no_lines (counts_line (sheet_steps c.args.sheet.now)) (string_bytes c.in_ok-text.text) (formula_line (sheet_outputs c.args.sheet.now) (map g.R.Spelled.shows c.args.values.now)) c.in_ok-text.ensures

pub loop-f-preserved : goal.loop-f-preserved
loop-f-preserved g c =
    let sheet = c.args.sheet.now in
    let outputs = sheet_outputs sheet in
    let shows = g.R.Spelled.shows in
    let values = c.args.values.now in
    let turns = over c.into_iter-f-iterator.result outputs values (cc) (cc) (cc) in
    let n = length c.loop-f.yielded in
    let f = c.in-Some.f in
    let o = c.in-Some.operand in
    let v = c.in-Some.value in
    let turn = YieldsList-turn turns c.loop-f.yielded c.loop-f.f-iterator c.loop-f.yielded_by c.next.result c.next.new.self (f, (o, v)) c.in-Some.is c.next.ensures.steps in
    let at = turn_at outputs values n f o.now v.now turn.0 turn.1 in
    let front = counts_line (sheet_steps sheet) in
    let line = formula_line outputs (map shows values) in
    let more = string_bytes c.push_formula.new.text in
    lines_to front more (n + 1) (length (c.loop-f.yielded ++ (f, (o, v)) ∷ [])) line
    (lines_more front (string_bytes c.loop-f.text) more n line c.loop-f.invariant
    (line_here outputs (map shows values) n f o.now (string_bytes c.loop-f.text) more (shows v.now) at.0 at.1 at.3
    (ap shows at.2 ∙ sym (get_or-map shows values n v.now [] at.4)) c.in_ok-push_formula.ensures))
    (sym (length-append c.loop-f.yielded ((f, (o, v)) ∷ [])))
