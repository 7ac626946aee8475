use Rattle.std.proofs.Common.{ltb, sym, ap, ◌∙◌}
use Rattle.cubes.specs.Powers.{power}
use Rattle.cubes.specs.Rows.{as_rows, divided_rows}
use Rattle.table.specs.Of.{rows_at}
use Rattle.sharing.proofs.Outs.{any_counted}
use Rattle.sharing.proofs.Rows.{divided_are}
use Rattle.sharing.proofs.out.has_divided.Goals as goal

pub returns : goal.returns
returns c =
    let p = power c.args.cube in
    let xs = rows_at c.args.table.now c.args.e in
    ap (ltb 0) (c.divided_rows.ensures ∙ ap (divided_rows p) c.rows.ensures ∙ sym (divided_are p xs)) ∙ any_counted p (as_rows xs)
