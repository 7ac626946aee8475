use Rattle.std.proofs.Common.{◌&&◌, nat_eq, ◌∙◌, rules, tests}
use Rattle.std.specs.List.{list_any}
use Rattle.std.proofs.lemmas.Iterator.{YieldsList-from_slice}
use Rattle.std.proofs.lemmas.Iterator.Search.{any_from_yields_List}
use Rattle.few.specs.Listed.{listed}
use Rattle.factoring.specs.declared.taken.TakenKernel.{TakenKernel}
use Rattle.factoring.proofs.Covers.{covers_any}
use Rattle.factoring.proofs.taking.is_covered.Goals as goal

pub returns : goal.returns
returns c =
    any_from_yields_List (λ (t : TakenKernel). nat_eq t.expression c.args.e && list_any (λ y. nat_eq y c.args.place) (listed t.places)) _ _ _ c.any.ensures.ran (YieldsList-from_slice c.args.taken.now cc) (λ x b q k. search (rules, tests))
    ∙ covers_any c.args.e c.args.place c.args.taken.now
