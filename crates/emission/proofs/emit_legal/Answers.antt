use Rattle.emission.proofs.Legals.{emit_legal}
use Rattle.emission.proofs.emit_legal.Goals as goal

pub returns : goal.returns
returns c = emit_legal
