use Rattle.std.proofs.Common.{sym, ◌∙◌}
use Rattle.std.proofs.lemmas.List.{at_drop_all}
use Rattle.choosing.specs.Taken.{row_of}
use Rattle.choosing.proofs.Steps.{row_of_hit, row_of_miss}
use Rattle.choosing.proofs.walk.find.Goals as goal

pub returns-then-c-name : goal.returns-then-c-name
returns-then-c-name c = sym (row_of_hit _ _ c.loop-c-test.true _ c.if-c-name.true) ∙ c.loop-c.invariant

pub loop-c-preserved : goal.loop-c-preserved
loop-c-preserved c = sym (row_of_miss _ _ c.loop-c-test.true _ c.if-c-name.false) ∙ c.loop-c.invariant

pub returns : goal.returns
returns c = sym (at_drop_all (row_of c.args.name) _ _ c.loop-c-test.false) ∙ c.loop-c.invariant
