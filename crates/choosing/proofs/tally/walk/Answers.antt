use Rattle.std.proofs.Common.{arith}
use Rattle.choosing.proofs.Walks.{onward_more, onward_all}
use Rattle.choosing.proofs.tally.walk.Goals as goal

pub loop-card-preserved : goal.loop-card-preserved
loop-card-preserved c = (
  onward_more _ _ _ _ c.loop-card-test.true c.card-item.is _ _ c.look.ensures c.loop-card.invariant.0,
  ((omega arith), (omega arith), (omega arith)),
)

pub returns : goal.returns
returns c = onward_all _ _ _ _ c.loop-card-test.false c.loop-card.auto.card-index-end c.loop-card.invariant.0 c.loop-card.invariant.1
