use Rattle.std.proofs.Common.{◌≡◌, ◌+◌, ◌<◌, [], ◌∷◌, ◌++◌, length, ap, ◌∙◌, arith, rules, tests}
use Rattle.std.proofs.lemmas.List.{length_push}
use Rattle.cubes.specs.Powers.{power}
use Rattle.few.specs.Listed.{listed}
use Rattle.factoring.proofs.Namings.{at_end, moved, turn_in, turn_out, turn_none}
use Rattle.factoring.proofs.columns.named_columns.Goals as goal
use Rattle.factoring.proofs.columns.named_columns.Goals.{in-Some, in_default, then-number-eq1, else-number-eq1}

pub unwrap-requires : goal.unwrap-requires
unwrap-requires c =
    let few : length (listed c.loop-row.columns) < 8 = omega (arith, c.loop-row.invariant.1, c.loop-row-test.true, c.requires) in
    search (rules, tests, few)

pub loop-row-preserved : goal.loop-row-preserved
loop-row-preserved c =
    let a = power c.args.cokernel in
    let xs = c.args.rows.now in
    let h = c.loop-row-test.true in
    let n = c.loop-row.number in
    let i = c.loop-row.row-index in
    let old = listed c.loop-row.columns in
    elim c.match-divide.branch [
      | in-Some w ↦ elim w.if-number-eq1.branch [
        | then-number-eq1 v ↦
            let p : listed v.push.new.self ≡ old ++ w.in-Some.column ∷ [] = search (rules, tests, v.push.ensures, v.unwrap.ensures) in
            let e = ap listed (w.columns-is ∙ v.columns-is) ∙ p in (
              moved a c.args.set xs _ _ (i + 1) _ _ w.number-is e
                  (turn_in a c.args.set xs n i old h c.loop-row.invariant.0 w.in-Some.column w.in-Some.ensures.0 w.in-Some.ensures.1 v.if-number-eq1.true),
              omega (arith, ap length e, length_push old w.in-Some.column, c.loop-row.invariant.1),
            )
        | else-number-eq1 v ↦
            let e = ap listed (w.columns-is ∙ v.columns-is) in (
              moved a c.args.set xs _ _ (i + 1) _ _ w.number-is e (turn_out a c.args.set xs n i old h c.loop-row.invariant.0 w.in-Some.ensures.0 v.if-number-eq1.false),
              omega (arith, ap length e, c.loop-row.invariant.1),
            )
      ]
      | in_default w ↦ (
        moved a c.args.set xs _ _ (i + 1) _ _ w.number-is (ap listed w.columns-is) (turn_none a c.args.set xs n i old h c.loop-row.invariant.0 w.in_default.ensures),
        omega (arith, ap length (ap listed w.columns-is), c.loop-row.invariant.1),
      )
    ]

pub returns : goal.returns
returns c =
    at_end (power c.args.cokernel) c.args.set c.args.rows.now c.loop-row.number c.loop-row.row-index (listed c.loop-row.columns) c.loop-row-test.false c.loop-row.invariant.0
