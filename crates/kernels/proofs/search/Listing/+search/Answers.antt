use Rattle.std.proofs.Common.{◌-◌, ◌<◌, arith, ◌∙◌}
use Rattle.algebra.specs.Cubes.{letters}
use Rattle.kernels.specs.Search.{total}
use Rattle.kernels.proofs.Growth.{written_one, written_all, written_skip, written_child}
use Rattle.kernels.proofs.Totals.{falls}
use Rattle.kernels.proofs.search.Listing.+search.Goals as goal

pub loop-j-init : goal.loop-j-init
loop-j-init t c = (
  c.requires.letter,
  c.put.ensures.same_reference,
  written_one _ _ _ _ _ c.args.self.now.out.now _ _ c.requires.own c.used_rows.ensures c.put.ensures.end c.put.ensures.written,
)

pub search-requires : goal.search-requires
search-requires t c =
    let f = c.in-Some.ensures in
    let lt : c.loop-j.j - 1 < letters = omega arith in (
      (let g : total c.in-Some.child.rest < total c.args.node.now.rest = falls _ _ _ lt _ _ f in omega (arith, g, c.decreases)),
      (
        (omega arith),
        ((λ k w l h. omega (arith, (f.rows k w).1 l h, c.requires.small k (f.rows k w).0 l h)), f.own),
      ),
    )

pub loop-j-preserved-in-Some : goal.loop-j-preserved-in-Some
loop-j-preserved-in-Some t c = (
  (omega arith),
  c.search.ensures.same_reference ∙ c.loop-j.invariant.1,
  written_child _ _ _ _ _ _ _ _ _ _ _ _ _ (omega arith) (omega arith) (omega arith) c.in-Some.ensures c.loop-j.invariant.2 c.search.ensures.written,
)

pub loop-j-preserved : goal.loop-j-preserved
loop-j-preserved t c =
    ((omega arith), c.loop-j.invariant.1, written_skip _ _ _ _ _ _ _ _ _ (omega arith) (omega arith) c.in_default.ensures c.loop-j.invariant.2)

pub returns-clause-written : goal.returns-clause-written
returns-clause-written t c = written_all _ _ _ _ _ _ _ _ _ _ _ c.requires.own (omega arith) c.put.ensures.written c.loop-j.invariant.2
