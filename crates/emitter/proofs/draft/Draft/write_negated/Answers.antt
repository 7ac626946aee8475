use Rattle.std.proofs.Common.{List, length, sym, ap, subst, arith, rules}
use Rattle.sheet.specs.declared.operation.Operation.TheVariants.{Add}
use Rattle.emission.specs.Steps.{Chain, negated}
use Rattle.emitter.specs.declared.sums.Summand.{Summand}
use Rattle.emitter.specs.Chained.{Built}
use Rattle.emitter.specs.Terms.{operands}
use Rattle.emitter.proofs.Signs.{links_length, negated_some}
use Rattle.emitter.proofs.Writes.{chained_then, room_linked}
use Rattle.emitter.proofs.draft.Draft.write_negated.Goals as goal

pub link-requires : goal.link-requires
link-requires c =
    let added = c.link_all-added.ensures (λ _. Add) (λ t o k. search rules) in
    room_linked _ 1 added c.requires (omega (arith, links_length (λ _. Add) c.in-Some.rest.now, ap length c.in-Some.ensures.cases.0))

pub returns : goal.returns
returns c =
    let added = c.link_all-added.ensures (λ _. Add) (λ t o k. search rules) in
    subst (λ (ts : List Summand). Built c.args.self.now (negated (operands ts)) c.link.result c.link.new.self) (sym c.in-Some.ensures.cases.0)
    (subst (λ (k : Chain). Built c.args.self.now k c.link.result c.link.new.self) (sym (negated_some c.in-Some.first.now c.in-Some.rest.now)) (chained_then added c.link.ensures))
