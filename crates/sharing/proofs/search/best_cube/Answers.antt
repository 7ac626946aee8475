use Rattle.std.proofs.Common.{arith}
use Rattle.table.specs.Of.{style_of}
use Rattle.sharing.proofs.Bests.{found, so_far_none}
use Rattle.sharing.proofs.search.best_cube.Goals as goal

pub loop-e-init : goal.loop-e-init
loop-e-init c = so_far_none (style_of c.args.table.now)

pub returns : goal.returns
returns c = found (style_of c.args.table.now) c.loop-e.e (omega (arith, c.loop-e-test.false, c.standing-e-end.ensures)) c.loop-e.best c.loop-e.invariant
