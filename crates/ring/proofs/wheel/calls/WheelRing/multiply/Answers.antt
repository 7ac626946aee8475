use mathlib.Core.Path.{ap, ◌∙◌}
use lib.Dec.{lit<}
use Rattle.ring.specs.Residue.{residue}
use Rattle.ring.proofs.Residues.{residue_times}
use Rattle.ring.proofs.wheel.calls.WheelRing.multiply.Goals as goal

pub returns : goal.returns
returns c = ap (residue 97 (lit< tt)) c.product.ensures ∙ residue_times 97 (lit< tt) c.args.self.value c.args.other.value
