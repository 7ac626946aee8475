use Rattle.rewriting.proofs.Chosen.{candidates_fair}
use Rattle.rewriting.proofs.choice.candidates_fair.Goals as goal

pub returns : goal.returns
returns c = candidates_fair
