use Rattle.emission.proofs.Makings.{emit_values}
use Rattle.emission.proofs.emit_values.Goals as goal

pub returns : goal.returns
returns g c = emit_values g.R.Ring.ring
