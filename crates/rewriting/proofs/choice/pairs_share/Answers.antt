use Rattle.rewriting.proofs.Paired.{no_pair_no_cube, pairs_share}
use Rattle.rewriting.proofs.choice.pairs_share.Goals as goal

pub returns : goal.returns
returns c = record { pairs = pairs_share; none = no_pair_no_cube }
