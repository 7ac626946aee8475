use Rattle.rewriting.proofs.Factors.{factor_keeps_worth}
use Rattle.rewriting.proofs.factor.factor_keeps_worth.Goals as goal

pub returns : goal.returns
returns g c = factor_keeps_worth g.R.Ring.ring
