use Rattle.rewriting.proofs.Savings.{factor_saves}
use Rattle.rewriting.proofs.factor.factor_saves.Goals as goal

pub returns : goal.returns
returns c = factor_saves
