use Rattle.std.proofs.Common.{rules, tests}
use Rattle.std.proofs.lemmas.Iterator.{YieldsList-from_slice}
use Rattle.std.proofs.lemmas.Iterator.Search.{position_from_yields_List}
use Rattle.cubes.specs.Powers.{power}
use Rattle.cubes.specs.Rows.{as_row}
use Rattle.rewriting.specs.Factor.{product_row}
use Rattle.factoring.proofs.Products.{first_like, like}
use Rattle.factoring.proofs.taking.place_behind.Goals as goal

pub returns : goal.returns
returns c =
    let r = product_row (power c.args.cokernel) (as_row c.args.column) in
    first_like r c.args.rows.now c.position.result
    (position_from_yields_List (like r) _ _ _ c.position.ensures.ran (YieldsList-from_slice c.args.rows.now cc) (λ x b q k. search (rules, tests)))
