use Rattle.std.proofs.Common.{refl, arith}
use Rattle.algebra.proofs.Degrees.{degree_same}
use Rattle.cubes.specs.Powers.{power}
use Rattle.rewriting.specs.Sharing.{shared_cube}
use Rattle.table.specs.Of.{style_of}
use Rattle.sharing.specs.Pairs.{spot}
use Rattle.sharing.proofs.Rows.{common_there, row_small, row_there, saved_from}
use Rattle.sharing.proofs.search.weigh.Goals as goal

pub offset_bounds-rows-first : goal.offset_bounds-rows-first
offset_bounds-rows-first c = omega (arith, row_small c.args.table.now (spot c.args.first) c.requires.first)

pub bounds-rows-first : goal.bounds-rows-first
bounds-rows-first c = row_there c.args.table.now (spot c.args.first) c.requires.first c.rows.result.now c.rows.ensures

pub offset_bounds-rows-second : goal.offset_bounds-rows-second
offset_bounds-rows-second c = omega (arith, row_small c.args.table.now (spot c.args.second) c.requires.second)

pub bounds-rows-second : goal.bounds-rows-second
bounds-rows-second c = row_there c.args.table.now (spot c.args.second) c.requires.second c.rows-2.result.now c.rows-2.ensures

pub returns-then-degree-lt-LEAST_DEGREE : goal.returns-then-degree-lt-LEAST_DEGREE
returns-then-degree-lt-LEAST_DEGREE c =
    let t = c.args.table.now in
    let x = spot c.args.first in
    let y = spot c.args.second in
    let a = power c.common-cube.result in
    let same = common_there t x y c.requires.first c.requires.second c.rows.result.now c.rows-2.result.now c.rows.ensures c.rows-2.ensures a c.common-cube.ensures in
    λ p. omega (arith, p.high, degree_same a (shared_cube (style_of t) x y) same, c.degree-degree.ensures.is, c.if-degree-lt-LEAST_DEGREE.true)

pub returns : goal.returns
returns c =
    let t = c.args.table.now in
    let x = spot c.args.first in
    let y = spot c.args.second in
    let a = power c.common-cube.result in
    let same = common_there t x y c.requires.first c.requires.second c.rows.result.now c.rows-2.result.now c.rows.ensures c.rows-2.ensures a c.common-cube.ensures in
    record {
      told = record {
        cube = same;
        rows = c.rows_divided-rows.ensures.is;
        saved =
            saved_from (style_of t) a c.rows_divided-rows.result c.saturating_sub.result c.degree-degree.result c.rows_divided-rows.ensures.is
            c.saturating_sub.ensures c.degree-degree.ensures.is;
      };
      pair = record {
        first = c.requires.first;
        second = c.requires.second;
        ahead = c.if-not-ahead.ensures.yes refl;
        high = omega (arith, degree_same a (shared_cube (style_of t) x y) same, c.degree-degree.ensures.is, c.if-degree-lt-LEAST_DEGREE.false);
      };
      is_first = refl;
      is_second = refl;
    }
