use lib.Dec.{lit<}
use Rattle.ring.proofs.Residues.{number_is, numeral_number, plus_number, times_number, opposite_number}
use Rattle.ring.proofs.operations.wheel_operations.Goals as goal

pub returns : goal.returns
returns c =
    let r = c.operations_at.result in
    let e = c.operations_at.ensures in
    let x = c.args.x.value in
    let y = c.args.y.value in
    record {
      zero_is = number_is 97 (lit< tt) r.zero.value r.zero.ok e.zero;
      one_is = number_is 97 (lit< tt) r.one.value r.one.ok e.one;
      numeral_is = numeral_number 97 (lit< tt) r.numeral.value c.args.n r.numeral.ok e.numeral;
      sum_is = plus_number 97 (lit< tt) r.sum.value x y r.sum.ok e.sum;
      product_is = times_number 97 (lit< tt) r.product.value x y r.product.ok e.product;
      opposite_is = opposite_number 97 (lit< tt) r.opposite.value x r.opposite.ok c.args.x.ok e.opposite;
    }
