use mathlib.Core.Path.{ap, ◌∙◌}
use lib.Dec.{lit<}
use Rattle.ring.specs.Residue.{residue}
use Rattle.ring.proofs.Residues.{residue_plus}
use Rattle.ring.proofs.wheel.calls.WheelRing.add.Goals as goal

pub returns : goal.returns
returns c = ap (residue 97 (lit< tt)) c.sum.ensures ∙ residue_plus 97 (lit< tt) c.args.self.value c.args.other.value
