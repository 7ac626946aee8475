use Rattle.std.proofs.Common.{arith}
use Rattle.table.specs.Of.{style_of}
use Rattle.sharing.specs.Pairs.{spot}
use Rattle.sharing.proofs.Bests.{so_far_end, so_far_start}
use Rattle.sharing.proofs.search.best_second.Goals as goal

pub loop-e-init : goal.loop-e-init
loop-e-init c = so_far_start (style_of c.args.table.now) (spot c.args.first) c.args.best c.requires.before

pub returns : goal.returns
returns c =
    so_far_end (style_of c.args.table.now) c.args.first.expression c.args.first.row c.loop-e.e
    (omega (arith, c.loop-e-test.false, c.standing-e-end.ensures)) c.loop-e.best c.loop-e.invariant
