use Rattle.std.proofs.Common.{◌<◌, length, refl, subst, arith}
use Rattle.cubes.specs.Expressions.{rows_of}
use Rattle.cubes.specs.Powers.{power}
use Rattle.cubes.specs.Rows.{Holds, most_rows}
use Rattle.cubes.proofs.Rows.{pushed}
use Rattle.cubes.proofs.expression.Expression.push.Goals as goal
use Rattle.cubes.proofs.expression.Expression.push.Goals.{else-len-lt-ROWS-via-then-len-lt-ROWS+else-holds, else-len-lt-ROWS-via-else-len-lt-ROWS}

pub invariant_of-self : goal.invariant_of-self
invariant_of-self c =
    let e = c.args.self.now in
    let fresh : length (rows_of e) < most_rows → Holds (rows_of e) (power c.args.row.cube) → ⊥ = λ room.
    elim c.else-len-lt-ROWS.branch [
      | else-len-lt-ROWS-via-then-len-lt-ROWS+else-holds w ↦
          subst (λ xs. Holds xs (power c.args.row.cube) → ⊥) w.rows.ensures.are (w.if-holds.ensures.no refl)
      | else-len-lt-ROWS-via-else-len-lt-ROWS w ↦ absurd (omega (arith, w.if-len-lt-ROWS.false, c.len.ensures))
    ] in
    record { apart = pushed e.rows c.push.new.self c.args.row c.push.result e.apart fresh c.push.ensures }
