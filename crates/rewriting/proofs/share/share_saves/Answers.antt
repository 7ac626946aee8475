use Rattle.rewriting.proofs.Shares.{share_saves}
use Rattle.rewriting.proofs.share.share_saves.Goals as goal

pub returns : goal.returns
returns c = share_saves
