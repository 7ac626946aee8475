use Rattle.std.proofs.Common.{◌+◌, vec_items, sym, refl, ap, ◌∙◌, subst}
use Rattle.cubes.specs.Powers.{power}
use Rattle.cubes.specs.Rows.{as_rows, minus}
use Rattle.factoring.specs.Takens.{as_taken}
use Rattle.factoring.proofs.Rests.{Appending, append_end, append_first, append_other, append_own, taken_has}
use Rattle.factoring.proofs.rewritten.with_products.Goals as goal
use Rattle.factoring.proofs.rewritten.with_products.Goals.{then-t-e+in-Some+in_ok-push, else-t-e}

pub loop-t-init : goal.loop-t-init
loop-t-init c = append_first (minus c.args.part.sign) (power c.args.part.cube) c.args.e c.args.taken.now (vec_items c.args.rows)

pub returns-in_default : goal.returns-in_default
returns-in_default c =
    (as_taken c.t-item.result, taken_has c.args.taken.now c.loop-t.t-index c.t-item.result c.loop-t-test.true c.t-item.is, c.in_default.ensures)

pub loop-t-preserved : goal.loop-t-preserved
loop-t-preserved c =
    let n = minus c.args.part.sign in
    let p = power c.args.part.cube in
    let ts = c.args.taken.now in
    let base = as_rows (vec_items c.args.rows) in
    let i = c.loop-t.t-index in
    let h = c.loop-t-test.true in
    elim c.if-t-e.branch [
      | then-t-e+in-Some+in_ok-push w ↦
          subst (Appending n p c.args.e ts base (i + 1)) (sym (ap vec_items w.rows-is ∙ w.in_ok-push.ensures.items))
          (append_own n p c.args.e ts base i (vec_items c.loop-t.rows) c.t-item.result h c.t-item.is c.loop-t.invariant w.if-t-e.true
          (record { cube = w.in-Some.cube; sign = c.args.part.sign })
          (record { sign = refl; cubes = λ l u. sym (w.in-Some.ensures.0 l u) }))
      | else-t-e w ↦
          subst (Appending n p c.args.e ts base (i + 1)) (sym (ap vec_items w.rows-is))
          (append_other n p c.args.e ts base i (vec_items c.loop-t.rows) c.t-item.result h c.t-item.is c.loop-t.invariant w.if-t-e.false)
    ]

pub returns : goal.returns
returns c =
    append_end (minus c.args.part.sign) (power c.args.part.cube) c.args.e c.args.taken.now (as_rows (vec_items c.args.rows)) c.loop-t.t-index (vec_items c.loop-t.rows) c.loop-t-test.false c.loop-t.invariant
