use Rattle.std.proofs.Common.{◌<◌, ◌≤◌, false, [], List, map, length, sym, ap, ◌∙◌, ⊎_elim, arith, rules, tests}
use lib.ListN.{length-map}
use Rattle.std.proofs.lemmas.List.{get_or_past}
use Rattle.std.proofs.lemmas.Bool.{cases_lt}
use Rattle.cubes.specs.declared.row.Row.{Row}
use Rattle.cubes.specs.Expressions.{rows_of}
use Rattle.cubes.specs.Powers.{power}
use Rattle.cubes.specs.Rows.{as_rows}
use Rattle.rewriting.specs.Order.{any_divided, shared_from}
use Rattle.table.specs.Of.{style_of}
use Rattle.sharing.proofs.Marks.{marked}
use Rattle.sharing.proofs.out.sources_of.Goals as goal

pub returns : goal.returns
returns c e =
    let t = c.args.table.now in
    let p = power c.args.cube in
    let made = c.from_fn.ensures.items in
    ⊎_elim (λ (l : e < 32). marked _ _ _ (shared_from (style_of t) p) (λ k b q h. search (rules, tests)) 0 32 made.each e (omega arith) (omega arith))
    (λ (l : 32 ≤ e).
    let past : length (map rows_of t.expressions) ≤ e = simp length-map (omega (arith, l, t.all)) in
    get_or_past c.from_fn.result e false (omega (arith, l, made.long))
    ∙ ap (λ (xs : List Row). any_divided p (as_rows xs)) (sym (get_or_past (map rows_of t.expressions) e [] past)))
    (cases_lt e 32)
