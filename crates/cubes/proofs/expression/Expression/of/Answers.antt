use Rattle.std.proofs.Common.{◌∙◌}
use Rattle.std.proofs.lemmas.List.{take_all}
use Rattle.std.proofs.lemmas.Result.{err_from_is_err_and}
use Rattle.cubes.specs.Expressions.{rows_of}
use Rattle.cubes.proofs.Made.{row_more, row_refused}
use Rattle.cubes.proofs.expression.Expression.of.Goals as goal

pub returns-in_err-push : goal.returns-in_err-push
returns-in_err-push c =
    let p = err_from_is_err_and c.from_residual.result c.from_residual.ensures.1 in
    rw (p.1, p.2)
    (row_refused c.args.rows.now c.loop-row.row-index c.loop-row-test.true (rows_of c.loop-row.e) c.loop-row.invariant
    c.loop-row.e.apart _ _ c.in_err-push.ensures)

pub loop-row-preserved : goal.loop-row-preserved
loop-row-preserved c =
    row_more c.args.rows.now c.loop-row.row-index c.loop-row-test.true (rows_of c.loop-row.e) c.loop-row.invariant
    (rows_of c.push.new.self) c.in_ok-push.ensures

pub returns : goal.returns
returns c = c.loop-row.invariant ∙ take_all c.loop-row.row-index c.args.rows.now c.loop-row-test.false
