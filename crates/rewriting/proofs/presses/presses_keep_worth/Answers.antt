use Rattle.rewriting.proofs.Chains.{presses_keep_worth}
use Rattle.rewriting.proofs.presses.presses_keep_worth.Goals as goal

pub returns : goal.returns
returns g c = presses_keep_worth g.R.Ring.ring
