use Rattle.std.proofs.Common.{◌≡◌, List, map, length, sym, ap, ◌∙◌, subst, rules}
use Rattle.std.proofs.lemmas.List.{with_items_is}
use Rattle.sheet.specs.Parts.{sheet_numerals, sheet_steps, sheet_outputs}
use Rattle.sheet.specs.Values.{OutputValues}
use Rattle.runner.proofs.Laws.{ran_eight}
use Rattle.tablet.proofs.evaluation.run_sheet.Goals as goal

pub returns : goal.returns
returns g c =
    let m = g.R.Ring in
    let sheet = c.args.sheet.now in
    let told = c.in_ok-run.ensures in
    let ran = told.ran in
    let cells = map m.meaning c.run.new.bench.cells.now in
    let outputs = c.run.new.outputs in
    let kept : length outputs ≡ c.in_ok-outputs.outputs.len = search rules in
    let items = with_items_is c.in_ok-outputs.outputs outputs kept in
    record {
      eight = ran_eight (length c.args.measures.now) (length (sheet_steps sheet)) (length c.over-bench.result.cells.now) (length c.deref_mut-2.result.now) c.in_ok-run.field-0 told.answer;
      sixteen = ap length items ∙ kept ∙ c.in_ok-outputs.ensures.len;
      cells = cells;
      steps = ran.steps;
      outputs = subst (λ (xs : List g.row.R.Denot). OutputValues m.ring (sheet_numerals sheet) (map m.meaning c.args.measures.now) cells (sheet_outputs sheet) 16 (map m.meaning xs)) (sym items) ran.outputs;
    }
