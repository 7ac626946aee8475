use Rattle.std.proofs.Common.{◌+◌, List, ◌++◌, vec_items, sym, ap, ◌∙◌}
use Rattle.std.proofs.lemmas.List.{append-nil}
use Rattle.algebra.specs.Rows.{Row as Term}
use Rattle.cubes.specs.Rows.{as_rows}
use Rattle.cubes.specs.declared.row.Row.{Row}
use Rattle.rewriting.specs.Factor.{covered, has, taken_in}
use Rattle.factoring.specs.Takens.{as_takens}
use Rattle.factoring.proofs.Rests.{still, still_end, still_in, still_out}
use Rattle.factoring.proofs.rewritten.rows_left.Goals as goal
use Rattle.factoring.proofs.rewritten.rows_left.Goals.{then-not-is_covered+in_ok-push, else-not-is_covered}

pub loop-k-preserved : goal.loop-k-preserved
loop-k-preserved c =
    let gone = has (covered (taken_in c.args.e (as_takens c.args.taken.now))) in
    let xs = c.args.rows.now in
    let k = c.loop-k.k in
    let h = c.loop-k-test.true in
    elim c.if-not-is_covered.branch [
      | then-not-is_covered+in_ok-push w ↦
          ap (λ (ys : List Row). as_rows ys ++ still gone xs (k + 1)) (ap vec_items w.rest-is ∙ w.in_ok-push.ensures.items)
          ∙ still_in gone xs k h (sym w.if-not-is_covered.ensures) (vec_items c.loop-k.rest) ∙ c.loop-k.invariant
      | else-not-is_covered w ↦
          ap (λ (ys : List Row). as_rows ys ++ still gone xs (k + 1)) (ap vec_items w.rest-is)
          ∙ ap (λ (ys : List Term). as_rows (vec_items c.loop-k.rest) ++ ys) (still_out gone xs k h (sym w.if-not-is_covered.ensures)) ∙ c.loop-k.invariant
    ]

pub returns : goal.returns
returns c =
    let gone = has (covered (taken_in c.args.e (as_takens c.args.taken.now))) in
    sym (append-nil (as_rows (vec_items c.loop-k.rest)))
    ∙ sym (ap (λ (ys : List Term). as_rows (vec_items c.loop-k.rest) ++ ys) (still_end gone c.args.rows.now c.loop-k.k c.loop-k-test.false))
    ∙ c.loop-k.invariant
