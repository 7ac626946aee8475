use mathlib.Core.Path.{sym, ap, ◌∙◌}
use Prim.Native.Nat.{◌^◌}
use lib.Dec.{lit<}
use Rattle.ring.specs.Residue.{residue}
use Rattle.ring.proofs.Numerals.{ones_residue}
use Rattle.ring.proofs.word.WordRing.numeral.Goals as goal

pub returns : goal.returns
returns c = ap (residue (2 ^ 32) (lit< tt)) c.from.ensures ∙ sym (ones_residue (2 ^ 32) (lit< tt) c.args.n)
