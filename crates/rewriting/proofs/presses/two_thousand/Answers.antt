use Rattle.rewriting.proofs.Firsts.{two_thousand}
use Rattle.rewriting.proofs.presses.two_thousand.Goals as goal

pub returns : goal.returns
returns c = two_thousand
