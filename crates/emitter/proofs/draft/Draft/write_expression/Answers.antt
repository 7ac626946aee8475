use Rattle.std.proofs.Common.{List, length, ap, ◌∙◌, subst, arith}
use Rattle.cubes.specs.Rows.{as_rows}
use Rattle.emission.specs.Steps.{Signed, sum_chain}
use Rattle.emission.proofs.Counting.{products_length, sum_length}
use Rattle.emitter.specs.Chained.{Built}
use Rattle.emitter.specs.Terms.{signed}
use Rattle.emitter.proofs.Pushes.{expressed}
use Rattle.emitter.proofs.Writes.{room_left}
use Rattle.emitter.proofs.draft.Draft.write_expression.Goals as goal

pub write_sum-requires : goal.write_sum-requires
write_sum-requires c =
    let results = c.args.results.now in
    let rows = as_rows c.args.rows.now in
    let same = ap (λ (ts : List Signed). length (sum_chain ts).links) (ap signed c.as_slice.ensures.is ∙ c.write_products-terms.ensures.terms) in
    room_left _ _ c.write_products-terms.ensures.steps c.requires.room (omega (arith, same, products_length results c.args.self.now.next rows, sum_length results c.args.self.now.next rows))

pub returns : goal.returns
returns c =
    let e = expressed c.args.results.now (as_rows c.args.rows.now) c.write_products-terms.ensures.steps
    (subst (λ (ts : List Signed). Built c.write_products-terms.new.self (sum_chain ts) c.write_sum.result c.write_sum.new.self)
    (ap signed c.as_slice.ensures.is ∙ c.write_products-terms.ensures.terms) c.write_sum.ensures) in
    record { result = e.end; steps = e.steps }
