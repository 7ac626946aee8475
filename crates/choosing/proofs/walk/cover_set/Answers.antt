use Rattle.std.proofs.Common.{◌+◌, drop, sym, ap, ◌∙◌}
use Rattle.std.proofs.lemmas.List.{at_drop_all}
use Rattle.choosing.specs.Taken.{cover, covers}
use Rattle.choosing.proofs.Steps.{cover_more}
use Rattle.choosing.proofs.walk.cover_set.Goals as goal

pub loop-c-preserved : goal.loop-c-preserved
loop-c-preserved c =
    ap (λ o. cover o c.args.columns.now (drop (c.loop-c.c-index + 1) c.args.set.now)) c.cover_one.ensures
    ∙ sym (cover_more _ _ c.loop-c-test.true _ _)
    ∙ c.loop-c.invariant

pub returns : goal.returns
returns c = sym (at_drop_all (cover (covers c.loop-c.covered) c.args.columns.now) _ _ c.loop-c-test.false) ∙ c.loop-c.invariant
