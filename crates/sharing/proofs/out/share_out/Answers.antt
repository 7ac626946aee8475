use Rattle.cubes.specs.Expressions.{rows_of}
use Rattle.sharing.proofs.Outs.{share_ends}
use Rattle.sharing.proofs.out.share_out.Goals as goal

pub returns : goal.returns
returns c =
    share_ends c.args.cube c.args.table.now c.in_ok-next.next c.sources_of.result (rows_of c.in-Ok.part) c.with_part.result c.in_ok-next.ensures c.with_part.ensures c.in-Ok.ensures
    c.sources_of.ensures
