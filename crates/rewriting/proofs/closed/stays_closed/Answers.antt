use Rattle.rewriting.proofs.Reached.{presses_stay_closed}
use Rattle.rewriting.proofs.Tidies.{factor_stays_closed, share_stays_closed}
use Rattle.rewriting.proofs.closed.stays_closed.Goals as goal

pub returns : goal.returns
returns c = record { factor = factor_stays_closed; share = share_stays_closed; presses = presses_stay_closed }
