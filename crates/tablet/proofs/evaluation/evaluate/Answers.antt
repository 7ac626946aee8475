use Rattle.std.proofs.Common.{List, map, vec_items, ap, ◌∙◌}
use Rattle.sheet.specs.Parts.{sheet_steps, sheet_outputs}
use Rattle.tablet.specs.Evaluating.{Evaluated}
use Rattle.tablet.specs.Telling.{report_text}
use Rattle.tablet.proofs.Errors.{handed_on, not_run}
use Rattle.tablet.proofs.evaluation.evaluate.Goals as goal

pub returns-in_err-values : goal.returns-in_err-values
returns-in_err-values g c =
    let m = g.R.Ring in
    let measures = c.args.measures.now in
    let file = c.args.file.now in
    handed_on (Evaluated m.ring m.meaning g.R.Spelled.shows file measures) _ _ c.from_residual-in_err-values.ensures.1
    (not_run m.ring m.meaning g.R.Spelled.shows file measures c.in_ok-sheet.sheet _ c.in_ok-sheet.ensures.answer.0 c.in_err-values.ensures)

pub returns : goal.returns
returns g c =
    let values = c.in_ok-values.values in
    let sheet = c.in_ok-sheet.sheet in
    record {
      sheet = sheet;
      in_file = c.in_ok-sheet.ensures.answer.0;
      values = vec_items values;
      worth = c.in_ok-values.ensures;
      printed = c.in_ok-report.ensures ∙ ap (λ (xs : List g.row.R.Denot). report_text (sheet_steps sheet) (sheet_outputs sheet) (map g.R.Spelled.shows xs)) c.deref.ensures.value;
    }
