use Rattle.std.proofs.Common.{nat_eq, ◌∙◌, rules, tests}
use Rattle.std.proofs.lemmas.Iterator.{YieldsList-from_slice}
use Rattle.std.proofs.lemmas.Iterator.Search.{any_from_yields_List}
use Rattle.factoring.specs.declared.taken.TakenKernel.{TakenKernel}
use Rattle.factoring.proofs.Covers.{source_any}
use Rattle.factoring.proofs.order.is_source.Goals as goal

pub returns : goal.returns
returns c =
    any_from_yields_List (λ (t : TakenKernel). nat_eq t.expression c.args.e) _ _ _ c.any.ensures.ran (YieldsList-from_slice c.args.taken.now cc) (λ x b q k. search (rules, tests))
    ∙ source_any c.args.e c.args.taken.now
