use Rattle.std.proofs.Common.{sym, subst}
use Rattle.tablet.specs.Telling.{Spelt}
use Rattle.tablet.proofs.Errors.{answered}
use Rattle.tablet.proofs.answering.answer_over.Goals as goal

pub returns : goal.returns
returns g c =
    let m = g.R.Ring in
    let s = g.R.Spelled in
    let words = c.args.words.now in
    answered m.ring m.meaning s.shows c.args.file.now c.deref.result.now s.spells words _
    (subst (Spelt s.spells words) (sym c.deref.ensures.value) c.in_ok-measures.ensures) c.evaluate.ensures
