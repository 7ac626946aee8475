use Rattle.std.proofs.Common.{List, ◌++◌, map, vec_items, sym, ap, ◌∙◌, subst₂, inr, rules}
use Rattle.std.specs.List.{AllZip}
use Rattle.algebra.specs.Rows.{Alike, Row as Term}
use Rattle.cubes.specs.Powers.{power}
use Rattle.cubes.specs.Rows.{as_rows, minus}
use Rattle.cubes.specs.declared.row.Row.{Row}
use Rattle.rewriting.specs.Factor.{covered, has, taken_in, without}
use Rattle.table.specs.Of.{rows_at}
use Rattle.factoring.specs.Rewrites.{anew, part_row}
use Rattle.factoring.specs.Takens.{as_takens}
use Rattle.factoring.proofs.Rests.{made_anew}
use Rattle.factoring.proofs.rewritten.rewrite.Goals as goal

pub returns : goal.returns
returns c =
    let ts = taken_in c.args.e (as_takens c.args.taken.now) in
    let news = map (part_row (minus c.args.part.sign) (power c.args.part.cube)) ts in
    let made : AllZip Alike (as_rows (vec_items c.in_ok-rest.rest) ++ news) (as_rows (vec_items c.in-Some.rows)) = search rules in
    let rest = c.in_ok-rest.ensures ∙ ap (λ (xs : List Row). without (has (covered ts)) (as_rows xs)) c.rows.ensures in
    made_anew (anew (minus c.args.part.sign) (power c.args.part.cube) ts (as_rows (rows_at c.args.table.now c.args.e))) c.as_slice.result.now c.of.result c.ok.result _
    (subst₂ (λ (xs : List Term) (ys : List Row). AllZip Alike (xs ++ news) (as_rows ys)) rest (sym c.as_slice.ensures.value) made) c.of.ensures c.ok.ensures.value inr
