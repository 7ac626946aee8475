use Rattle.std.proofs.Common.{sym, ◌∙◌, arith, length-take}
use Rattle.algebra.specs.Sums.{counting}
use Rattle.algebra.proofs.Sums.{up_to_none}
use Rattle.cubes.specs.Powers.{power}
use Rattle.table.proofs.Looks.{standing_read}
use Rattle.sharing.proofs.Rows.{divided_more, few_divided}
use Rattle.sharing.proofs.count.rows_divided.Goals as goal

pub loop-x-init : goal.loop-x-init
loop-x-init c = (sym (up_to_none counting _), omega arith)

pub overflow_add-n : goal.overflow_add-n
overflow_add-n c =
    let t = c.args.table.now in
    let few = few_divided t (power c.args.cube) c.loop-x.x-index c.divided_rows-n.result c.rows.result.now (c.rows.ensures.are ∙ standing_read t c.standing.result c.loop-x.x-index c.x-item.result c.standing.ensures c.loop-x-test.true c.x-item.is) c.divided_rows-n.ensures in
    omega (arith, few, c.loop-x.invariant.1, c.loop-x-test.true, length-take c.standing.result t.expressions, t.all)

pub loop-x-preserved : goal.loop-x-preserved
loop-x-preserved c =
    let t = c.args.table.now in
    let a = power c.args.cube in
    let i = c.loop-x.x-index in
    let are = c.rows.ensures.are ∙ standing_read t c.standing.result c.loop-x.x-index c.x-item.result c.standing.ensures c.loop-x-test.true c.x-item.is in
    let few = few_divided t a i c.divided_rows-n.result c.rows.result.now are c.divided_rows-n.ensures in
    let more = divided_more t a i c.divided_rows-n.result c.rows.result.now are c.divided_rows-n.ensures c.loop-x.n c.loop-x.invariant.0 in
    (more, omega (arith, few, c.loop-x.invariant.1))
