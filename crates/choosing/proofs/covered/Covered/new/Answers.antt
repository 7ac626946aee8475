use Rattle.choosing.proofs.Steps.{blank_mark}
use Rattle.choosing.proofs.covered.Covered.new.Goals as goal

pub returns : goal.returns
returns c = λ q. blank_mark 256 q
