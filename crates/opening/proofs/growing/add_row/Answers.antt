use Rattle.std.proofs.Common.{List, get_or, length, refl, sym, ap, subst, arith, rules, tests}
use Rattle.cubes.specs.Expressions.{Added, rows_of}
use Rattle.cubes.specs.Powers.{power}
use Rattle.cubes.specs.Rows.{Holds}
use Rattle.cubes.specs.declared.row.Row.{Row}
use Rattle.std.specs.Result.{IsOk}
use Rattle.table.proofs.Looks.{rows_read, rows_set_other}
use Rattle.opening.proofs.Tables.{row_taken, rows_set_push}
use Rattle.opening.proofs.growing.add_row.Goals as goal

-- the formula has room, and none of its rows has the cube, so the row is pushed
taken : (c : goal.After-push) → IsOk c.push.result × Added (rows_of (get_or c.args.table.now.expressions c.args.formula c.index-table-formula.result)) c.args.row (rows_of c.push.new.self)
taken c =
    let x = get_or c.args.table.now.expressions c.args.formula c.index-table-formula.result in
    let are = rows_read c.args.table.now c.args.formula c.index-table-formula.result (omega (arith, c.requires.formula)) in
    row_taken c.push.result (rows_of x) c.args.row (rows_of c.push.new.self) (omega (arith, ap length are, c.requires.room))
    (subst (λ (xs : List Row). Holds xs (power c.args.row.cube) → ⊥) (sym are) c.requires.fresh) c.push.ensures

pub unwrap-requires : goal.unwrap-requires
unwrap-requires c = (taken c).0

pub returns : goal.returns
returns c =
    let es = c.args.table.now.expressions in
    let f = c.args.formula in
    record {
      numerals = refl;
      parts = refl;
      order = refl;
      here = rows_set_push es f c.index-table-formula.result c.push.new.self c.args.row (omega (arith, c.args.table.now.all, c.requires.formula)) (search (rules, tests, c.push.ensures, c.unwrap.ensures));
      elsewhere = λ k ne. rows_set_other es f c.push.new.self k ne;
    }
