use Rattle.std.proofs.Common.{rules, ◌++◌, sym, ap, ◌∙◌}
use Rattle.std.proofs.lemmas.List.{at_drop_all, append-nil}
use Rattle.few.specs.Listed.{listed}
use Rattle.choosing.specs.Sets.{chosen}
use Rattle.choosing.proofs.Steps.{chosen_yes, chosen_no}
use Rattle.choosing.proofs.walk.pick.Goals as goal
use Rattle.choosing.proofs.walk.pick.Goals.{then-rest-eq1, else-rest-eq1}

pub loop-c-preserved : goal.loop-c-preserved
loop-c-preserved c =
    elim c.if-rest-eq1.branch [
      | then-rest-eq1 w ↦ chosen_yes _ _ c.loop-c-test.true _ _ _ _ c.loop-c.invariant.0 c.loop-c.invariant.1 w.if-rest-eq1.true (ap listed w.picked-is ∙ search (rules, w.push.ensures, w.unwrap.ensures))
      | else-rest-eq1 w ↦ chosen_no _ _ c.loop-c-test.true _ _ _ _ c.loop-c.invariant.0 c.loop-c.invariant.1 w.if-rest-eq1.false (ap listed w.picked-is)
    ]

pub returns : goal.returns
returns c =
    sym (append-nil _)
    ∙ ap (λ ys. listed c.loop-c.picked ++ ys) (sym (at_drop_all (chosen c.loop-c.rest) _ _ c.loop-c-test.false))
    ∙ c.loop-c.invariant.1
