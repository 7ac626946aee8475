use Rattle.emission.proofs.Counting.{emit_counts}
use Rattle.emission.proofs.emit_counts.Goals as goal

pub returns : goal.returns
returns c = emit_counts
