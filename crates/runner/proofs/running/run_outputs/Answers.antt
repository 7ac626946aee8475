use Rattle.std.proofs.Common.{◌+◌, ◌<◌, List, map, length, sym, ap, ◌∙◌, subst, rules}
use Rattle.std.proofs.lemmas.List.{map-set, length-map}
use Rattle.sheet.specs.Values.{OutputValues}
use Rattle.runner.proofs.Laws.{outputs_more}
use Rattle.runner.proofs.running.run_outputs.Goals as goal

pub loop-k-preserved : goal.loop-k-preserved
loop-k-preserved g c =
    let m = g.R.Ring in
    let f = m.meaning in
    let operands = c.args.operands.now in
    let numerals = c.args.setting.now.numerals.now in
    let values = c.loop-k.outputs in
    let cells = map f c.args.bench.now.cells.now in
    let v = c.operand_value-value.result in
    let k = c.loop-k.k in
    let among : k < length operands = c.loop-k-test.true in
    let within : k < length values = search rules in
    let here : k < length (map f values) = simp length-map within in
    subst (λ (xs : List m.Meaning). OutputValues m.ring numerals (map f c.args.setting.now.measures.now) cells operands (k + 1) xs) (sym (ap (map f) c.write_cell.ensures ∙ map-set f values k v))
    (outputs_more m.ring numerals (map f c.args.setting.now.measures.now) k cells (map f values) operands _ (f v) here among c.operand_value-value.ensures c.loop-k.invariant)
