use mathlib.Core.Path.{◌≡◌, ◌∙◌}
use Prim.Native.Nat.{◌%◌, ◌^◌, ◌<◌}
use borrow.Author.Rules.{rules}
use lib.Dec.{lit<}
use native.Mathlib.Nat.{mod-eq_of_lt}
use Rattle.ring.proofs.Residues.{number_is, numeral_number, plus_number, times_number, opposite_number}
use Rattle.ring.proofs.operations.word_operations.Goals as goal

pub returns : goal.returns
returns c =
    let r = c.operations_at.result in
    let e = c.operations_at.ensures in
    let n = c.args.n in
    let x = c.args.x.value in
    let y = c.args.y.value in
    let fits : n < 2 ^ 32 = search rules in
    let counted : r.numeral.value ≡ n % 2 ^ 32 = numeral_number (2 ^ 32) (lit< tt) r.numeral.value n (search rules) e.numeral in
    record {
      plain = record {
        zero_is = number_is (2 ^ 32) (lit< tt) r.zero.value (search rules) e.zero;
        one_is = number_is (2 ^ 32) (lit< tt) r.one.value (search rules) e.one;
        numeral_is = counted;
        sum_is = plus_number (2 ^ 32) (lit< tt) r.sum.value x y (search rules) e.sum;
        product_is = times_number (2 ^ 32) (lit< tt) r.product.value x y (search rules) e.product;
        opposite_is = opposite_number (2 ^ 32) (lit< tt) r.opposite.value x (search rules) (search rules) e.opposite;
      };
      numeral = counted ∙ mod-eq_of_lt fits;
    }
