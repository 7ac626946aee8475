use mathlib.Core.Path.{◌≡◌, ap, ◌∙◌}
use Prim.Native.Nat.{◌^◌}
use borrow.Author.Rules.{rules}
use lib.Dec.{lit<}
use Rattle.ring.specs.Residue.{Residue}
use Rattle.ring.specs.Kinds.{word_ring}
use Rattle.ring.specs.Shown.{halves}
use Rattle.ring.proofs.Residues.{number_is, numeral_number, plus_number, times_number, opposite_number, rate_number}
use Rattle.ring.proofs.Numerals.{ones_pair}
use Rattle.ring.proofs.operations.pair_operations.Goals as goal

abbrev Both : Type 0
Both = Residue (2 ^ 32) × Residue (2 ^ 32)

value : {x y : Both} → x ≡ y → x.0 ≡ y.0
value e = ap (λ (t : Both). t.0) e

rate : {x y : Both} → x ≡ y → x.1 ≡ y.1
rate e = ap (λ (t : Both). t.1) e

pub returns : goal.returns
returns c =
    let r = c.operations_at.result in
    let e = c.operations_at.ensures in
    let n = c.args.n in
    let v = c.args.x.value.value in
    let w = c.args.x.rate.value in
    let p = c.args.y.value.value in
    let q = c.args.y.rate.value in
    let held = c.operations_at.type_inv.1.1 in
    let counted = e.numeral ∙ ones_pair word_ring n in
    record {
      zero_is =
          halves (number_is (2 ^ 32) (lit< tt) r.zero.value.value (search rules) (value e.zero))
          (number_is (2 ^ 32) (lit< tt) r.zero.rate.value (search rules) (rate e.zero));
      one_is =
          halves (number_is (2 ^ 32) (lit< tt) r.one.value.value (search rules) (value e.one))
          (number_is (2 ^ 32) (lit< tt) r.one.rate.value (search rules) (rate e.one));
      numeral_is =
          halves (numeral_number (2 ^ 32) (lit< tt) r.numeral.value.value n (search (rules, held.1.1.0)) (value counted))
          (number_is (2 ^ 32) (lit< tt) r.numeral.rate.value (search (rules, held.1.1.0)) (rate counted));
      sum_is =
          halves (plus_number (2 ^ 32) (lit< tt) r.sum.value.value v p (search (rules, held.1.1.1.0)) (value e.sum))
          (plus_number (2 ^ 32) (lit< tt) r.sum.rate.value w q (search (rules, held.1.1.1.0)) (rate e.sum));
      product_is =
          halves (times_number (2 ^ 32) (lit< tt) r.product.value.value v p (search (rules, held.1.1.1.1.0)) (value e.product))
          (rate_number (2 ^ 32) (lit< tt) r.product.rate.value v w p q (search (rules, held.1.1.1.1.0)) (rate e.product));
      opposite_is =
          halves (opposite_number (2 ^ 32) (lit< tt) r.opposite.value.value v (search (rules, held.1.1.1.1.1.0)) (search rules) (value e.opposite))
          (opposite_number (2 ^ 32) (lit< tt) r.opposite.rate.value w (search (rules, held.1.1.1.1.1.0)) (search rules) (rate e.opposite));
    }
