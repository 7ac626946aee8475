use Rattle.std.proofs.Common.{◌≡◌, ℕ, ◌+◌, ◌<◌, ◌≤◌, List, ◌++◌, length, get_or, take, set, sym, ap, ◌∙◌, ap₂, arith}
use Rattle.std.proofs.lemmas.List.{length-replicate, take_more, set_past}
use Rattle.sheet.specs.declared.operand.Operand.{Operand}
use Rattle.sheet.specs.declared.operand.Operand.TheVariants.{Zero}
use Rattle.cubes.specs.Rows.{as_rows}
use Rattle.table.specs.Of.{order_of, rows_at, style_of}
use Rattle.emission.specs.Steps.{emitted, expression_result, expression_steps, none_made, resulting}
use Rattle.emission.proofs.Makings.{resulting_length}
use Rattle.emitter.specs.Operations.{operations}
use Rattle.emitter.proofs.Writes.{appended_same, appended_then, room_left}
use Rattle.emitter.proofs.Pushes.{emitted_push, resulting_push}
use Rattle.table.proofs.Looks.{few_rows}
use Rattle.emitter.proofs.Tables.{emitted_room}
use Rattle.emitter.proofs.draft.Draft.write_expressions.Goals as goal
use Rattle.emitter.proofs.draft.Draft.write_expressions.Goals.{then-e-lt-EXPRESSIONS, else-e-lt-EXPRESSIONS}

pub write_expression-made-requires-clause-eight : goal.write_expression-made-requires-clause-eight
write_expression-made-requires-clause-eight c =
    let t = c.args.table.now in
    let number = ap (λ (es : List ℕ). get_or es c.loop-e.e-index 0) c.loop-e.invariant.order in
    omega (arith, ap length (c.rows.ensures ∙ ap (rows_at t) number), few_rows t (get_or (order_of t) c.loop-e.e-index 0))

pub write_expression-made-requires-clause-room : goal.write_expression-made-requires-clause-room
write_expression-made-requires-clause-room c =
    let t = c.args.table.now in
    let k = c.loop-e.e-index in
    let items = c.loop-e.invariant.order in
    let within : k < length (order_of t) = omega (arith, c.loop-e-test.true, ap length items) in
    let here = ap (λ rs. operations (as_rows rs)) c.rows.ensures in
    let same = ap (λ (es : List ℕ). operations ((style_of t).expression (get_or es k 0))) items in
    room_left _ _ c.loop-e.invariant.steps c.requires.room (omega (arith, here, same, emitted_room (style_of t).expression none_made 0 (order_of t) k within))

pub loop-e-preserved : goal.loop-e-preserved
loop-e-preserved c =
    let t = c.args.table.now in
    let rows = (style_of t).expression in
    let k = c.loop-e.e-index in
    let items = c.loop-e.invariant.order in
    let within : k < length (order_of t) = omega (arith, c.loop-e-test.true, ap length items) in
    let e = get_or (order_of t) k 0 in
    let number = ap (λ (es : List ℕ). get_or es k 0) items in
    let results = c.loop-e.results in
    let at = c.loop-e.self.next in
    let before = emitted rows none_made 0 (take k (order_of t)) in
    let made = c.write_expression-made.ensures in
    let more = take_more (order_of t) k 0 within in
    let next : at ≡ 0 + length before = c.loop-e.invariant.steps.next ∙ ap (λ (n : ℕ). n + length before) c.requires.first in
    let lent : as_rows c.rows.result.now ≡ rows e = ap as_rows c.rows.ensures ∙ ap rows number in
    let places : length results ≡ 32 = ap length c.loop-e.invariant.results ∙ resulting_length rows none_made 0 (take k (order_of t)) ∙ length-replicate 32 Zero in
    let noted : c.if-e-lt-EXPRESSIONS.results ≡ set results e c.write_expression-made.result = elim c.if-e-lt-EXPRESSIONS.branch [
      | then-e-lt-EXPRESSIONS w ↦ w.results-is ∙ ap (λ (n : ℕ). set results n c.write_expression-made.result) number
      | else-e-lt-EXPRESSIONS w ↦ let past : length results ≤ e = omega arith in w.results-is ∙ sym (set_past results e c.write_expression-made.result past)
    ] in
    record {
      order = items;
      steps = appended_same (appended_then c.loop-e.invariant.steps made.steps)
          (ap (λ rs. before ++ expression_steps results at rs) lent
          ∙ ap₂ (λ (rs : List Operand) (n : ℕ). before ++ expression_steps rs n (rows e)) c.loop-e.invariant.results next
          ∙ sym (emitted_push rows none_made 0 (take k (order_of t)) e) ∙ ap (emitted rows none_made 0) (sym more));
      results = noted ∙ ap (set results e) (made.result ∙ ap (expression_result results at) lent)
          ∙ ap₂ (λ (rs : List Operand) (n : ℕ). set rs e (expression_result rs n (rows e))) c.loop-e.invariant.results next
          ∙ sym (resulting_push rows none_made 0 (take k (order_of t)) e) ∙ ap (resulting rows none_made 0) (sym more);
    }
