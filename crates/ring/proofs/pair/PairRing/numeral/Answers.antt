use mathlib.Core.Path.{refl, sym, ◌∙◌}
use Rattle.ring.specs.Shown.{halves}
use Rattle.ring.proofs.Numerals.{ones_pair}
use Rattle.ring.proofs.pair.PairRing.numeral.Goals as goal

pub returns : goal.returns
returns g c = c.constant.ensures ∙ halves c.numeral.ensures refl ∙ sym (ones_pair g.R.Ring.ring c.args.n)
