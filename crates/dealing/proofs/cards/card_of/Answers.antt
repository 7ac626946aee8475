use Rattle.std.proofs.Common.{◌*◌, List, ap, ◌∙◌, subst, arith}
use Rattle.std.proofs.lemmas.List.{take_all}
use Rattle.algebra.specs.Rows.{quotients}
use Rattle.few.specs.Listed.{listed}
use Rattle.cubes.specs.declared.row.Row.{Row}
use Rattle.cubes.specs.Powers.{power}
use Rattle.cubes.specs.Rows.{as_rows}
use Rattle.dealing.specs.Cards.{Named, columns_of}
use Rattle.dealing.specs.Naming.{named_rows}
use Rattle.dealing.proofs.Dealts.{grown_none, grown_on, rows_few, rows_more}
use Rattle.dealing.proofs.Tables.{place_fits}
use Rattle.dealing.proofs.cards.card_of.Goals as goal

pub overflow_mul-place : goal.overflow_mul-place
overflow_mul-place c =
    omega (arith, (place_fits c.args.table.now c.args.kernel.now.expression c.loop-k.k c.rows-rows.result.now c.rows-rows.ensures c.loop-k-test.true).0)

pub overflow_add-place : goal.overflow_add-place
overflow_add-place c =
    let h = place_fits c.args.table.now c.args.kernel.now.expression c.loop-k.k c.rows-rows.result.now c.rows-rows.ensures c.loop-k-test.true in
    omega (arith, h.0, h.1)

pub overflow_cast-place : goal.overflow_cast-place
overflow_cast-place c =
    let h = place_fits c.args.table.now c.args.kernel.now.expression c.loop-k.k c.rows-rows.result.now c.rows-rows.ensures c.loop-k-test.true in
    omega (arith, h.0, h.1)

pub loop-k-init : goal.loop-k-init
loop-k-init c = (c.new-columns.ensures, tt, grown_none (named_rows c.args.names.now))

pub append-requires : goal.append-requires
append-requires c =
    let h = place_fits c.args.table.now c.args.kernel.now.expression c.loop-k.k c.rows-rows.result.now c.rows-rows.ensures c.loop-k-test.true in
    omega (
      arith,
      h.1,
      rows_few (named_rows c.loop-k.names) (power c.args.kernel.now.cokernel) (8 * c.args.kernel.now.expression) c.rows-rows.result.now c.loop-k.k c.loop-k-test.true
          (listed c.loop-k.columns) c.loop-k.invariant.0,
    )

pub loop-k-preserved : goal.loop-k-preserved
loop-k-preserved c =
    let adds = c.in_ok-column.ensures in
    let more =
    rows_more (named_rows c.loop-k.names) (named_rows c.column_of.new.names) (power c.args.kernel.now.cokernel) (8 * c.args.kernel.now.expression) c.rows-rows.result.now c.loop-k.k _
    c.loop-k-test.true c.in_ok-column.column (listed c.loop-k.columns) (listed c.append.new.columns) c.loop-k.invariant.0 c.loop-k.invariant.1 adds c.append.ensures in
    (more.0, more.1, grown_on (named_rows c.args.names.now) (named_rows c.loop-k.names) (named_rows c.column_of.new.names) c.loop-k.invariant.2 adds.grown)

pub returns : goal.returns
returns c =
    let co = power c.args.kernel.now.cokernel in
    let names = named_rows c.loop-k.names in
    let all = take_all c.loop-k.k c.rows-rows.result.now c.loop-k-test.false ∙ c.rows-rows.ensures in
    record {
      grown = c.loop-k.invariant.2;
      dealt = record {
        degree = c.degree-degree.ensures.is;
        columns = c.loop-k.invariant.0 ∙ ap (λ (xs : List Row). columns_of names co (8 * c.args.kernel.now.expression) (as_rows xs)) all;
        named = subst (λ (xs : List Row). Named names (quotients co (as_rows xs))) all c.loop-k.invariant.1;
      };
    }
