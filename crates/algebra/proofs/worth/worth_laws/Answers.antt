use Rattle.algebra.proofs.Worths.{worth_laws}
use Rattle.algebra.proofs.worth.worth_laws.Goals as goal

pub returns : goal.returns
returns g c = worth_laws g.R.Ring.ring
