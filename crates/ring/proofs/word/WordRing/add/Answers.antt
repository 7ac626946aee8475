use mathlib.Core.Path.{ap, ◌∙◌}
use Prim.Native.Nat.{◌^◌}
use lib.Dec.{lit<}
use Rattle.ring.specs.Residue.{residue}
use Rattle.ring.proofs.Residues.{residue_plus}
use Rattle.ring.proofs.word.WordRing.add.Goals as goal

pub returns : goal.returns
returns c = ap (residue (2 ^ 32) (lit< tt)) c.sum.ensures ∙ residue_plus (2 ^ 32) (lit< tt) c.args.self.value c.args.other.value
