use Rattle.choosing.proofs.Orders.{taken_in_order}
use Rattle.choosing.proofs.laws.taken_in_order.Goals as goal

pub returns : goal.returns
returns c = taken_in_order
