use Rattle.std.proofs.Common.{◌+◌, sym, subst}
use Rattle.table.specs.Of.{style_of}
use Rattle.sharing.specs.Pairs.{KnownSoFar, at, spot}
use Rattle.sharing.proofs.Bests.{so_far_better, so_far_second_over, so_far_skip}
use Rattle.sharing.proofs.Rows.{rows_all, stands_there}
use Rattle.sharing.proofs.search.best_second_in.Goals as goal
use Rattle.sharing.proofs.search.best_second_in.Goals.{in-Some, in_default}

pub weigh-requires : goal.weigh-requires
weigh-requires c = record {
  first = c.requires.first;
  second = stands_there c.args.table.now c.args.e c.loop-row.row c.rows-row-end.result.now c.rows-row-end.ensures c.requires.second c.loop-row-test.true;
}

pub loop-row-preserved : goal.loop-row-preserved
loop-row-preserved c =
    let s = style_of c.args.table.now in
    let e = c.args.e in
    let k = c.loop-row.row in
    let first = c.args.first in
    elim c.match-weigh.branch [
      | in-Some w ↦
          subst (KnownSoFar s (spot first) (at e (k + 1))) (sym w.best-is)
          (so_far_better s first (record { expression = e; row = k }) w.in-Some.x w.in-Some.ensures c.loop-row.best w.better.result w.better.ensures c.loop-row.invariant)
      | in_default w ↦
          subst (KnownSoFar s (spot first) (at e (k + 1))) (sym w.best-is) (so_far_skip s (spot first) e k w.in_default.ensures c.loop-row.best c.loop-row.invariant)
    ]

pub returns : goal.returns
returns c =
    let t = c.args.table.now in
    so_far_second_over (style_of t) (spot c.args.first) c.args.e c.loop-row.row (rows_all t c.args.e c.loop-row.row c.rows-row-end.result.now c.rows-row-end.ensures c.loop-row-test.false)
    c.loop-row.best c.loop-row.invariant
