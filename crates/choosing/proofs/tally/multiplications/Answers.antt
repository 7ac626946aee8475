use Rattle.std.proofs.Common.{◌^◌, ◌+◌, ◌<◌, rules, tests, arith}
use Rattle.std.specs.List.{fold}
use Rattle.std.proofs.lemmas.Iterator.{YieldsList-from_slice}
use Rattle.std.proofs.lemmas.Iterator.Adapters.{at_most_from_yields_List, fits_from_length}
use Rattle.choosing.proofs.tally.multiplications.Goals as goal

pub returns-clause-small : goal.returns-clause-small
returns-clause-small c =
    let run = c.sum-sum.ensures.runs tt in
    let small : fold (λ a x. a + x) 0 run.0.items < 2 ^ 20 + 1 =
    fits_from_length _ _ 8 (2 ^ 20 + 1) (at_most_from_yields_List (YieldsList-from_slice c.as_slice.result.now cc) (omega arith)) c.map.ensures.closure (omega arith)
    (λ x r q k. search (rules, tests, k)) run.0 run.0.seen run.1 in
    omega (arith, small, run.3)
