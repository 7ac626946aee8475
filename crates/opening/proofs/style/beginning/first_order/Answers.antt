use Rattle.std.proofs.Common.{◌≡◌, ◌<◌, length, get_or, take, set, sym, ◌∙◌, arith, below_more}
use Rattle.std.proofs.lemmas.List.{ext_get_or, get_or-set_same, get_or-set_other, get_or-take, length-set, length-take-le}
use Rattle.rewriting.specs.Order.{count_from}
use Rattle.opening.proofs.Numbered.{count_at, length_count}
use Rattle.opening.proofs.style.beginning.first_order.Goals as goal

pub loop-e-preserved : goal.loop-e-preserved
loop-e-preserved c =
    let order = c.loop-e.order in
    let e = c.loop-e.e in
    let lt : e < length order = omega (arith, c.loop-e.invariant.0, c.loop-e-test.true) in (
      length-set order e e ∙ c.loop-e.invariant.0,
      below_more (λ k. get_or (set order e e) k 0 ≡ k) e
          (λ k h. get_or-set_other order e k e 0 (λ q. omega arith) ∙ c.loop-e.invariant.1 k h)
          (get_or-set_same order e e 0 lt),
    )

pub returns : goal.returns
returns c =
    let order = c.loop-e.order in
    let long : length (take 16 order) ≡ 16 = length-take-le 16 order (omega (arith, c.loop-e.invariant.0)) in
    record {
      all = c.loop-e.invariant.0;
      is = ext_get_or 0 (take 16 order) (count_from 0 16) (long ∙ sym (length_count 0 16))
          (λ k h. let below : k < 16 = omega (arith, long, h) in
          get_or-take 16 order k 0 below ∙ c.loop-e.invariant.1 k (omega (arith, c.loop-e-test.false)) ∙ sym (count_at 0 16 k below ∙ omega arith));
    }
