use Rattle.std.proofs.Common.{◌+◌, length, take, sym, ap, ◌∙◌, subst, arith, rules}
use Rattle.std.proofs.lemmas.List.{take_rest, length-take-le, length-drop}
use Rattle.sheet.specs.declared.operation.Operation.TheVariants.{Sub}
use Rattle.emission.specs.Steps.{Chain}
use Rattle.emitter.specs.Chained.{Built}
use Rattle.emitter.specs.Terms.{links_by}
use Rattle.emitter.proofs.Signs.{by_sign, links_length, none_chain, negated_length, first_at, first_length}
use Rattle.emitter.proofs.Writes.{chained_same, chained_then, room_linked}
use Rattle.emitter.proofs.draft.Draft.write_sum.Goals as goal

pub write_negated-requires : goal.write_negated-requires
write_negated-requires c =
    let ts = c.args.terms.now in
    let none = ap (λ (k : Chain). length k.links) (none_chain ts (sym c.first_positive.ensures ∙ c.in_default.is)) ∙ negated_length ts in
    omega arith

pub returns-in_default : goal.returns-in_default
returns-in_default c =
    subst (λ (k : Chain). Built c.args.self.now k c.write_negated.result c.write_negated.new.self)
    (sym (none_chain c.args.terms.now (sym c.first_positive.ensures ∙ c.in_default.is))) c.write_negated.ensures

pub link_all-taken-requires-clause-room : goal.link_all-taken-requires-clause-room
link_all-taken-requires-clause-room c =
    let ts = c.args.terms.now in
    let p = c.in-Some.first in
    let f = first_at ts p (sym c.first_positive.ensures ∙ c.in-Some.is) in
    let len = first_length ts p f in
    let h = f.within in
    let part = length-take-le p ts (omega arith) in
    omega arith

pub link_all-requires-clause-room : goal.link_all-requires-clause-room
link_all-requires-clause-room c =
    let ts = c.args.terms.now in
    let p = c.in-Some.first in
    let f = first_at ts p (sym c.first_positive.ensures ∙ c.in-Some.is) in
    let h = f.within in
    let taken = c.link_all-taken.ensures (λ _. Sub) (λ t o k. search rules) in
    let rest = ap length (take_rest ts (p + 1)) ∙ length-drop (p + 1) ts in
    room_linked _ _ taken c.requires (omega (arith, first_length ts p f, links_length (λ _. Sub) (take p ts), length-take-le p ts (omega arith)))

pub returns : goal.returns
returns c =
    let ts = c.args.terms.now in
    let p = c.in-Some.first in
    let f = first_at ts p (sym c.first_positive.ensures ∙ c.in-Some.is) in
    let taken = c.link_all-taken.ensures (λ _. Sub) (λ t o k. search rules) in
    let last = c.link_all.ensures by_sign (λ t o k. search rules) in
    subst (λ (k : Chain). Built c.args.self.now k c.link_all.result c.link_all.new.self) (sym f.chain)
    (chained_then taken (chained_same last (ap (links_by by_sign) (take_rest ts (p + 1)))))
