use Rattle.table.specs.Of.{style_of}
use Rattle.sharing.proofs.Bests.{so_far_first_over}
use Rattle.sharing.proofs.Rows.{rows_all, stands_there}
use Rattle.sharing.proofs.search.best_first_in.Goals as goal

pub best_second-best-requires : goal.best_second-best-requires
best_second-best-requires c = record {
  first = stands_there c.args.table.now c.args.e c.loop-row.row c.rows-row-end.result.now c.rows-row-end.ensures c.requires.first c.loop-row-test.true;
  before = c.loop-row.invariant;
}

pub returns : goal.returns
returns c =
    let t = c.args.table.now in
    so_far_first_over (style_of t) c.args.e c.loop-row.row (rows_all t c.args.e c.loop-row.row c.rows-row-end.result.now c.rows-row-end.ensures c.loop-row-test.false)
    c.loop-row.best c.loop-row.invariant
