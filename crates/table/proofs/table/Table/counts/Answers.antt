use Rattle.std.proofs.Common.{◌≡◌, ℕ, ◌+◌, List, sym, ap, ◌∙◌, ap₂, arith}
use Rattle.algebra.specs.Counts.{additions, multiplications, negations}
use Rattle.algebra.specs.Sums.{counting, up_to}
use Rattle.cubes.specs.Rows.{as_rows}
use Rattle.algebra.specs.Rows.{Row as Term}
use Rattle.table.specs.Of.{style_of}
use Rattle.table.proofs.Looks.{standing_read, up_to_next}
use Rattle.table.proofs.table.Table.counts.Goals as goal

pub loop-x-init : goal.loop-x-init
unfolding up_to
loop-x-init c =
    let d = c.default-sum.ensures in
    (record { mul = d.0; add = d.1.0; neg = d.1.1 }, omega (arith, d.0), omega (arith, d.1.0), omega (arith, d.1.1))

pub loop-x-preserved : goal.loop-x-preserved
loop-x-preserved c =
    let t = c.args.self.now in
    let e = c.loop-x.x-index in
    let more : (count : List Term → ℕ) (n r : ℕ) → n ≡ up_to counting e (λ k. count ((style_of t).expression k)) → r ≡ count ((style_of t).expression e)
    → n + r ≡ up_to counting (e + 1) (λ k. count ((style_of t).expression k))
    = λ count n r p q. ap₂ ◌+◌ p q ∙ sym (up_to_next e (λ k. count ((style_of t).expression k))) in
    let here = ap as_rows (standing_read t c.standing.result e c.x-item.result c.standing.ensures c.loop-x-test.true c.x-item.is) in (
      record {
        mul = more multiplications _ _ c.loop-x.invariant.0.mul (c.multiplications.ensures ∙ ap multiplications here);
        add = more additions _ _ c.loop-x.invariant.0.add (c.additions.ensures ∙ ap additions here);
        neg = more negations _ _ c.loop-x.invariant.0.neg (c.negations.ensures ∙ ap negations here);
      },
      omega (arith, c.loop-x.invariant.1, c.multiplications.type_inv),
      omega (arith, c.loop-x.invariant.2, c.additions.type_inv),
      omega (arith, c.loop-x.invariant.3, c.negations.type_inv),
    )
