use Rattle.rewriting.proofs.Orders.{first_ordered, factor_stays_ordered, presses_stay_ordered, share_stays_ordered}
use Rattle.rewriting.proofs.order.stays_ordered.Goals as goal

pub returns : goal.returns
returns c = record { first = first_ordered; factor = factor_stays_ordered; share = share_stays_ordered; presses = presses_stay_ordered }
