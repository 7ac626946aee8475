use mathlib.Core.Path.{sym, ap, ◌∙◌}
use native.Mathlib.Nat.{mod-mod}
use lib.Dec.{lit<}
use Rattle.ring.specs.Residue.{residue}
use Rattle.ring.specs.Shown.{same_residue}
use Rattle.ring.proofs.Numerals.{ones_residue}
use Rattle.ring.proofs.wheel.calls.WheelRing.numeral.Goals as goal

pub returns : goal.returns
returns c =
    ap (residue 97 (lit< tt)) c.of.ensures
    ∙ same_residue _ _ (mod-mod c.from.result 97)
    ∙ ap (residue 97 (lit< tt)) c.from.ensures
    ∙ sym (ones_residue 97 (lit< tt) c.args.n)
