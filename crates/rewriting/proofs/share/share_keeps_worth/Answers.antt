use Rattle.rewriting.proofs.Shares.{share_keeps_worth}
use Rattle.rewriting.proofs.share.share_keeps_worth.Goals as goal

pub returns : goal.returns
returns g c = share_keeps_worth g.R.Ring.ring
