use Rattle.std.proofs.Common.{ℕ, ◌<◌, List, [], ◌∷◌, ◌++◌, length, get_or, take, sym, ap, ◌∙◌, arith, rules, tests}
use Rattle.std.proofs.lemmas.List.{length-map, length-take-le, map_more, map_push}
use Rattle.sheet.specs.declared.operand.Operand.{Operand}
use Rattle.cubes.specs.Rows.{as_row, as_rows, no_row}
use Rattle.few.specs.Listed.{listed}
use Rattle.emission.specs.Steps.{Signed, chain_end, chain_steps, products, row_chain, summands}
use Rattle.emission.proofs.Counting.{products_length, summands_length}
use Rattle.emitter.specs.declared.sums.Summand.{Summand}
use Rattle.emitter.specs.Terms.{signed, signed_one}
use Rattle.emitter.proofs.Writes.{appended_same, appended_then, room_left}
use Rattle.emitter.proofs.Pushes.{products_push, summands_push, row_room}
use Rattle.emitter.proofs.draft.Draft.write_products.Goals as goal

pub write_product-requires : goal.write_product-requires
write_product-requires c =
    let rows = c.args.rows.now in
    let i = c.loop-row.row-index in
    let len = products_length c.args.results.now c.args.self.now.next (as_rows (take i rows)) in
    room_left _ _ c.loop-row.invariant.steps c.requires.room (omega (arith, len, row_room rows i no_row c.loop-row-test.true))

pub unwrap-requires : goal.unwrap-requires
unwrap-requires c =
    let done = as_rows (take c.loop-row.row-index c.args.rows.now) in
    let i = c.loop-row.row-index in
    let rows = c.args.rows.now in
    let few : length (listed c.loop-row.terms) < 8 = omega (arith, sym (length-map (listed c.loop-row.terms) signed_one), ap length c.loop-row.invariant.terms, summands_length c.args.results.now c.args.self.now.next done, length-map (take i rows) as_row, length-take-le i rows c.loop-row.auto.row-index-end, c.loop-row-test.true, c.requires.eight) in
    search (rules, tests, few)

pub loop-row-preserved : goal.loop-row-preserved
loop-row-preserved c =
    let results = c.args.results.now in
    let rows = c.args.rows.now in
    let at = c.args.self.now.next in
    let i = c.loop-row.row-index in
    let x = get_or rows i no_row in
    let r = as_row x in
    let k = row_chain results r in
    let made = c.write_product.ensures in
    let term : Summand = record { sign = x.sign; operand = c.write_product.result } in
    let done = as_rows (take i rows) in
    let before = products results at done in
    let next = c.loop-row.invariant.steps.next in
    let more = map_more as_row rows i no_row c.loop-row-test.true in
    record {
      steps = appended_same (appended_then c.loop-row.invariant.steps made.steps)
          (ap (λ (m : ℕ). before ++ chain_steps m k) next ∙ sym (products_push results at done r) ∙ ap (products results at) (sym more));
      terms = ap signed (search (rules, tests, c.push.ensures, c.unwrap.ensures))
          ∙ map_push signed_one (listed c.loop-row.terms) term
          ∙ ap (λ (ts : List Signed). ts ++ signed_one term ∷ []) c.loop-row.invariant.terms
          ∙ ap (λ (o : Operand). summands results at done ++ (r.negative, o) ∷ []) (made.end ∙ ap (λ (m : ℕ). chain_end m k) next)
          ∙ sym (summands_push results at done r) ∙ ap (summands results at) (sym more);
    }
