use Rattle.algebra.proofs.Tallies.{count_laws}
use Rattle.algebra.proofs.counts.count_laws.Goals as goal

pub returns : goal.returns
returns c = count_laws
