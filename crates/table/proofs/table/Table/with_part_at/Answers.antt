use Rattle.std.proofs.Common.{◌≡◌, ℕ, ◌+◌, ◌<◌, set, take, refl, sym, ap, ◌∙◌, subst, arith}
use Rattle.std.specs.List.{insert}
use Rattle.table.specs.Of.{standing_in}
use Rattle.table.proofs.Looks.{rows_in, rows_set_here, rows_set_other}
use Rattle.table.proofs.table.Table.with_part_at.Goals as goal

pub returns : goal.returns
returns c =
    let t = c.args.self.now in
    let n = c.standing-number.result in
    let is : n ≡ standing_in t = c.standing-number.ensures in
    let room : t.parts < 16 = omega (arith, t.few) in
    let next : 16 + (t.parts + 1) ≡ standing_in t + 1 = omega arith in
    record {
      room = room;
      rows = λ e l. rows_set_other t.expressions n c.args.part e (λ q. omega arith);
      part_rows = ap (rows_in (set t.expressions n c.args.part)) (sym is) ∙ rows_set_here t.expressions n c.args.part (omega (arith, t.all));
      numerals = refl;
      parts = refl;
      order = ap (λ (k : ℕ). take k c.put_at-order.result) next ∙ subst (λ (k : ℕ). take (k + 1) c.put_at-order.result ≡ insert (take k t.order) c.args.at k) is c.put_at-order.ensures.put;
    }
