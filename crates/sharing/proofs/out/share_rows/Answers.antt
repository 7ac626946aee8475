use Rattle.std.proofs.Common.{◌≡◌, ℕ, ◌<◌, ◌≢◌, List, [], map, length, drop, sym, refl, ◌∙◌, subst, subst₂, arith, length-set, length-take, below_more}
use Rattle.std.specs.List.{AllZip}
use Rattle.std.proofs.lemmas.List.{get_or-map}
use Rattle.algebra.specs.Rows.{Alike}
use Rattle.cubes.specs.declared.row.Row.{Row}
use Rattle.cubes.specs.Expressions.{rows_of}
use Rattle.cubes.specs.Powers.{power}
use Rattle.cubes.specs.Rows.{as_rows}
use Rattle.cubes.specs.Shares.{Lacks}
use Rattle.rewriting.specs.Share.{shared_row}
use Rattle.table.specs.Of.{rows_at, standing_in}
use Rattle.table.proofs.Looks.{rows_set_here, rows_set_other}
use Rattle.sharing.proofs.Outs.{rows_in_front, rows_in_take}
use Rattle.sharing.proofs.out.share_rows.Goals as goal

pub loop-x-init : goal.loop-x-init
loop-x-init c =
    let t = c.args.table.now in
    let is : c.standing-letter.result ≡ standing_in t = c.standing-letter.ensures in
    record {
      long = omega (arith, length-take c.standing-letter.result t.expressions, is, t.all, t.few);
      done = λ e l. absurd (omega arith);
      rest = λ e h l. rows_in_take c.standing-letter.result t.expressions e (omega (arith, l, is));
    }

pub returns-in_err-share : goal.returns-in_err-share
returns-in_err-share c =
    let t = c.args.table.now in
    let e = c.loop-x.x-index in
    let es = c.loop-x.x-items in
    let is : c.standing-letter.result ≡ standing_in t = c.standing-letter.ensures in
    let h : e < length es = omega (arith, c.loop-x-test.true, c.loop-x.invariant.long, length-take c.standing-letter.result t.expressions, is) in
    let l : e < standing_in t = omega (arith, h, c.loop-x.invariant.long) in
    let same = sym (get_or-map rows_of es e _ [] h) ∙ c.loop-x.invariant.rest e (omega arith) l in
    rw c.from_residual.ensures (e, l, λ known lacks. c.in_err-share.ensures.taken (omega (arith, is, known)) (subst₂ Lacks (sym is) (sym same) lacks))

pub loop-x-preserved : goal.loop-x-preserved
loop-x-preserved c =
    let t = c.args.table.now in
    let e = c.loop-x.x-index in
    let es = c.loop-x.x-items in
    let p = power c.args.cube in
    let x = c.share.new.self in
    let is : c.standing-letter.result ≡ standing_in t = c.standing-letter.ensures in
    let h : e < length es = omega (arith, c.loop-x-test.true, c.loop-x.invariant.long, length-take c.standing-letter.result t.expressions, is) in
    let l : e < standing_in t = omega (arith, h, c.loop-x.invariant.long) in
    let same = sym (get_or-map rows_of es e _ [] h) ∙ c.loop-x.invariant.rest e (omega arith) l in
    let here : AllZip Alike (as_rows (rows_of x)) (map (shared_row (standing_in t) p) (as_rows (rows_at t e))) =
    subst₂ (λ (j : ℕ) (xs : List Row). AllZip Alike (as_rows (rows_of x)) (map (shared_row j p) (as_rows xs))) is same c.in_ok-share.ensures.rows
    in
    record {
      long = simp length-set c.loop-x.invariant.long;
      done = below_more _ e
          (λ k b. subst (λ (xs : List Row). AllZip Alike (as_rows xs) (map (shared_row (standing_in t) p) (as_rows (rows_at t k)))) (sym (rows_set_other es e x k (let ne : k ≢ e = omega arith in ne))) (c.loop-x.invariant.done k b))
          (subst (λ (xs : List Row). AllZip Alike (as_rows xs) (map (shared_row (standing_in t) p) (as_rows (rows_at t e)))) (sym (rows_set_here es e x h)) here);
      rest = λ k b m. rows_set_other es e x k (let ne : k ≢ e = omega arith in ne) ∙ c.loop-x.invariant.rest k (omega arith) m;
    }

pub returns : goal.returns
returns c =
    let t = c.args.table.now in
    let es = c.loop-x.x-items in
    record {
      rows = λ e l. subst (λ (xs : List Row). AllZip Alike (as_rows xs) (map (shared_row (standing_in t) (power c.args.cube)) (as_rows (rows_at t e))))
          (sym (rows_in_front es (drop c.standing-letter.result t.expressions) e (omega (arith, l, c.loop-x.invariant.long))))
          (c.loop-x.invariant.done e (omega (arith, l, c.loop-x.invariant.long, c.loop-x-test.false, c.standing-letter.ensures, length-take c.standing-letter.result t.expressions, t.all, t.few)));
      numerals = refl;
      parts = refl;
      order = refl;
    }
