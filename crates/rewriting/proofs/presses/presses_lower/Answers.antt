use Rattle.rewriting.proofs.Chains.{presses_lower}
use Rattle.rewriting.proofs.presses.presses_lower.Goals as goal

pub returns : goal.returns
returns c = presses_lower
