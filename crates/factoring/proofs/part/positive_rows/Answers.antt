use Rattle.std.proofs.Common.{◌≡◌, ◌<◌, List, [], ◌∷◌, ◌++◌, map, length, get_or, take, sym, ap, ◌∙◌, arith, rules, tests}
use Rattle.std.proofs.lemmas.List.{length_push, map_more, map_push, take_all}
use Rattle.algebra.specs.Rows.{Row as Term}
use Rattle.cubes.specs.Rows.{as_row, as_rows, no_row}
use Rattle.cubes.specs.declared.row.Row.{Row}
use Rattle.cubes.specs.declared.row.Sign.TheVariants.{Plus}
use Rattle.few.specs.Listed.{listed}
use Rattle.rewriting.specs.Factor.{positive}
use Rattle.factoring.proofs.part.positive_rows.Goals as goal

pub loop-row-init : goal.loop-row-init
loop-row-init c = (ap as_rows c.new-rows.ensures, ap length c.new-rows.ensures)

pub unwrap-requires : goal.unwrap-requires
unwrap-requires c =
    let few : length (listed c.loop-row.rows) < 8 = omega (arith, c.loop-row.invariant.1, c.loop-row-test.true, c.as_slice-row-items.ensures.few) in
    search (rules, tests, few)

pub loop-row-preserved : goal.loop-row-preserved
loop-row-preserved c =
    let xs = c.as_slice-row-items.result.now in
    let i = c.loop-row.row-index in
    let old = listed c.loop-row.rows in
    let x : Row = record { cube = (get_or xs i no_row).cube; sign = Plus } in
    let p : listed c.push.new.self ≡ old ++ x ∷ [] = search (rules, tests, c.push.ensures, c.unwrap.ensures) in (
      ap as_rows p ∙ map_push as_row old x
          ∙ ap (λ (ys : List Term). ys ++ positive (as_row (get_or xs i no_row)) ∷ []) c.loop-row.invariant.0
          ∙ sym (ap (map positive) (map_more as_row xs i no_row c.loop-row-test.true) ∙ map_push positive (as_rows (take i xs)) (as_row (get_or xs i no_row))),
      omega (arith, ap length p, length_push old x, c.loop-row.invariant.1),
    )

pub returns : goal.returns
returns c =
    c.loop-row.invariant.0 ∙ ap (λ (xs : List Row). map positive (as_rows xs)) (take_all c.loop-row.row-index c.as_slice-row-items.result.now c.loop-row-test.false ∙ c.as_slice-row-items.ensures.is)
