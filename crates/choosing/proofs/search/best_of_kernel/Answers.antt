use Rattle.std.proofs.Common.{ap, filter, ◌+◌, ◌<◌, ◌≤◌, length, sym, ◌∙◌, subst, arith}
use Rattle.few.specs.Listed.{listed}
use Rattle.choosing.specs.Near.{near_to}
use Rattle.choosing.specs.Progress.{SoFar}
use Rattle.choosing.proofs.Bests.{candidate_not, near_taken, tells_from, end_is, so_far_skip, so_far_better, so_far_next}
use Rattle.choosing.proofs.search.best_of_kernel.Goals as goal
use Rattle.choosing.proofs.search.best_of_kernel.Goals.{then-len-ge-LEAST, else-len-ge-LEAST}

pub loop-set-preserved : goal.loop-set-preserved
loop-set-preserved c =
    let many = c.len-end.ensures.is in
    let few = c.len-end.ensures.few in
    elim c.if-len-ge-LEAST.branch [
      | then-len-ge-LEAST w ↦
          let two : 2 ≤ length (listed c.pick-picked.result) = omega arith in
          let near = near_taken _ _ _ _ c.requires.at many few _ _ c.pick-picked.ensures two _ (c.as_slice-takers.ensures.value ∙ c.in_ok-near.ensures ∙ ap (λ l. filter (near_to l) c.args.cards.now) c.as_slice.ensures.is) in
          subst (SoFar c.args.weight c.args.cards.now c.args.kernel (c.loop-set.set + 1)) (sym w.best-is)
          (
          so_far_better _ _ _ _ w.weigh.result _ _
          (
          tells_from _ _ _ _ c.requires.at many few _ _ c.pick-picked.ensures c.loop-set-test.true two _ near
          w.weigh.result w.weigh.ensures.at w.weigh.ensures.weighed
          )
          w.weigh.ensures.at w.better-best.ensures.takes w.better-best.ensures.keeps c.loop-set.invariant
          )
      | else-len-ge-LEAST w ↦
          let short : length (listed c.pick-picked.result) < 2 = omega arith in
          subst (SoFar c.args.weight c.args.cards.now c.args.kernel (c.loop-set.set + 1)) (sym w.best-is)
          (so_far_skip _ _ _ _ (candidate_not _ _ _ _ c.requires.at many few _ _ c.pick-picked.ensures short) _ c.loop-set.invariant)
    ]

pub returns : goal.returns
returns c =
    so_far_next _ _ _ _
    (omega (arith, end_is c.args.cards.now c.args.kernel c.args.card.now c.len-end.result c.requires.at c.len-end.ensures.is c.len-end.ensures.few, c.loop-set-test.false))
    _ c.loop-set.invariant
