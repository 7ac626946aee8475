use Rattle.std.proofs.Common.{◌+◌, [], take, sym, refl, ◌∙◌, arith}
use Rattle.cubes.specs.Expressions.{rows_of}
use Rattle.kernels.specs.Joins.{JoinedFrom}
use Rattle.kernels.specs.Kernels.{KernelList}
use Rattle.kernels.proofs.Beginnings.{ran, none}
use Rattle.kernels.proofs.Joins.{joined_more}
use Rattle.kernels.proofs.Overlays.{overlay_nil, written_join}
use Rattle.kernels.proofs.list.run_all.Goals as goal

pub loop-k-init : goal.loop-k-init
loop-k-init c = (refl, record { list = []; is = refl; end = omega arith; written = sym (overlay_nil c.args.out.now 0) })

pub loop-k-preserved : goal.loop-k-preserved
loop-k-preserved c =
    let n = c.args.first in
    let es = c.args.expressions.now in
    let k = c.loop-k.k in
    let e = c.index-expressions-k.result in
    let f = c.loop-k.invariant.1 in
    let g = ran _ _ _ _ c.in-Some.ensures _ _ _ _ c.search.ensures.written in (
      c.search.ensures.same_reference ∙ c.loop-k.invariant.0,
      written_join (JoinedFrom n (take k es)) (KernelList (n + k) (rows_of e)) (JoinedFrom n (take (k + 1) es)) 0 _ _ _ _ _ (omega arith) f g
          (joined_more n es k e f.list g.list c.loop-k-test.true c.index-expressions-k.is f.is g.is),
    )

pub loop-k-preserved-in_default : goal.loop-k-preserved-in_default
loop-k-preserved-in_default c =
    let n = c.args.first in
    let es = c.args.expressions.now in
    let k = c.loop-k.k in
    let e = c.index-expressions-k.result in
    let f = c.loop-k.invariant.1 in (
      c.loop-k.invariant.0,
      written_join (JoinedFrom n (take k es)) (KernelList (n + k) (rows_of e)) (JoinedFrom n (take (k + 1) es)) 0 _ _ _ _ _ (omega arith) f
          (record { list = []; is = none _ _ c.in_default.ensures; end = omega (arith, f.end); written = sym (overlay_nil c.loop-k.listing.out.now c.loop-k.listing.count) })
          (joined_more n es k e f.list [] c.loop-k-test.true c.index-expressions-k.is f.is (none _ _ c.in_default.ensures)),
    )
