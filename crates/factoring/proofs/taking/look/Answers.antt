use Rattle.std.proofs.Common.{vec_items}
use Rattle.cubes.specs.Rows.{as_rows}
use Rattle.few.specs.Listed.{listed}
use Rattle.factoring.proofs.Looks.{taken_from}
use Rattle.factoring.proofs.taking.look.Goals as goal

pub returns-in_ok-push : goal.returns-in_ok-push
returns-in_ok-push c =
    let o = c.in-Some.ensures in
    taken_from c.args.table.now (as_rows (listed c.args.columns.now)) c.args.kernel c.in-Some.places c.rows-rows.result.now c.as_slice.result.now (vec_items c.args.taken.now) _
    c.rows-rows.ensures c.as_slice.ensures.value c.in_ok-push.ensures.items o.0 o.1
