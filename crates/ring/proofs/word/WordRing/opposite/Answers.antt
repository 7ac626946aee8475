use mathlib.Core.Path.{ap, ◌∙◌}
use Prim.Native.Nat.{◌^◌, ◌<◌}
use borrow.Author.Rules.{rules}
use lib.Dec.{lit<}
use Rattle.ring.specs.Residue.{residue}
use Rattle.ring.proofs.Residues.{residue_opposite}
use Rattle.ring.proofs.word.WordRing.opposite.Goals as goal

pub returns : goal.returns
returns c =
    let fits : c.args.self.value < 2 ^ 32 = search rules in
    ap (residue (2 ^ 32) (lit< tt)) c.negative.ensures ∙ residue_opposite (2 ^ 32) (lit< tt) c.args.self.value fits
