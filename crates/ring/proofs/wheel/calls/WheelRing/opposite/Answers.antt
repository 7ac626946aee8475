use mathlib.Core.Path.{ap, ◌∙◌}
use lib.Dec.{lit<}
use Rattle.ring.specs.Residue.{residue}
use Rattle.ring.proofs.Residues.{residue_opposite}
use Rattle.ring.proofs.wheel.calls.WheelRing.opposite.Goals as goal

pub returns : goal.returns
returns c = ap (residue 97 (lit< tt)) c.negative.ensures ∙ residue_opposite 97 (lit< tt) c.args.self.value c.args.self.ok
