use Rattle.rewriting.proofs.Chains.{presses_keep_values}
use Rattle.rewriting.proofs.presses.presses_keep_values.Goals as goal

pub returns : goal.returns
returns g c = presses_keep_values g.R.Ring.ring
