use Rattle.std.proofs.Common.{sym, ◌∙◌, arith, rules, tests}
use Rattle.std.proofs.lemmas.Iterator.{YieldsList-from_map, YieldsList-from_slice}
use Rattle.std.proofs.lemmas.Iterator.Adapters.{at_most_from_yields_List, fits_from_length}
use Rattle.std.proofs.lemmas.Iterator.Consumers.{sum_by_from_yields_List}
use Rattle.table.specs.Of.{order_of, style_of}
use Rattle.emission.specs.Steps.{none_made}
use Rattle.emitter.specs.Operations.{operations}
use Rattle.emitter.proofs.Tables.{emitted_sum, order_few}
use Rattle.emitter.proofs.counts.count_steps.Goals as goal

pub sum-requires-clause-fits : goal.sum-requires-clause-fits
sum-requires-clause-fits c =
    fits_from_length _ _ 32 _ (at_most_from_yields_List (YieldsList-from_slice (order_of c.args.table.now) cc) (order_few c.args.table.now)) c.map.ensures.closure (omega arith) (λ x r q k. search (rules, tests))

pub returns : goal.returns
returns c =
    let t = c.args.table.now in
    sum_by_from_yields_List (λ e. operations ((style_of t).expression e)) (order_of t) c.map.result c.sum.result c.sum.ensures.ran
    (YieldsList-from_map _ (λ e. operations ((style_of t).expression e)) (YieldsList-from_slice (order_of t) cc) c.map.ensures.closure (λ x r q k. search (rules, tests)))
    ∙ sym (emitted_sum (style_of t).expression none_made 0 (order_of t))
