use Rattle.rewriting.proofs.Reached.{takes_distinct}
use Rattle.rewriting.proofs.closed.columns_distinct.Goals as goal

pub returns : goal.returns
returns c = takes_distinct
