use Rattle.std.proofs.Common.{List, ap, ◌∙◌, ap₂, rules}
use Rattle.std.specs.List.{position}
use Rattle.std.specs.Option.{unwrap_or}
use Rattle.cubes.specs.Expressions.{rows_of}
use Rattle.rewriting.specs.Order.{factored_from}
use Rattle.table.proofs.Adds.{part_added}
use Rattle.algebra.specs.Cubes.{Same, letter}
use Rattle.cubes.specs.Powers.{power}
use Rattle.algebra.specs.Counts.{all_negative}
use Rattle.cubes.specs.declared.row.Row.{Row}
use Rattle.cubes.specs.Rows.{as_rows, minus}
use Rattle.few.specs.Listed.{listed}
use Rattle.table.specs.Of.{standing_in}
use Rattle.factoring.specs.Rewrites.{AllAnew, OneUnmade}
use Rattle.factoring.specs.Takens.{as_takens}
use Rattle.factoring.proofs.Wholes.{ends, part_unmade, unmade}
use Rattle.factoring.proofs.factored.factor.Goals as goal

pub returns-in_default-2 : goal.returns-in_default-2
returns-in_default-2 c =
    let part : Same (power c.in-Some.letter) (letter (standing_in c.args.table.now)) = search rules in
    let one : OneUnmade (minus c.common_sign.result) (power c.in-Some.letter) (as_takens c.args.taken.now) c.args.table.now = search rules in
    let sign = c.common_sign.ensures ∙ ap (λ (xs : List Row). all_negative (as_rows xs)) c.as_slice.ensures.is in
    unmade c.args.table.now (as_rows (listed c.args.columns.now)) (as_takens c.args.taken.now) (minus c.common_sign.result) (power c.in-Some.letter) sign part one

pub returns-in_default-of : goal.returns-in_default-of
returns-in_default-of c =
    part_unmade c.args.table.now (as_rows (listed c.args.columns.now)) (as_takens c.args.taken.now) c.as_slice-2.result.now c.in_default-of.field-0
    (ap as_rows c.as_slice-2.ensures.is ∙ c.rows_of_part.ensures) c.in_default-of.ensures

pub returns : goal.returns
returns c =
    let t = c.args.table.now in
    let named = factored_from (as_takens c.args.taken.now) in
    let next = c.in-Some-2.anew in
    let part : Same (power c.in-Some.letter) (letter (standing_in t)) = search rules in
    let all : AllAnew (minus c.common_sign.result) (power c.in-Some.letter) (as_takens c.args.taken.now) t next = search rules in
    let sign = c.common_sign.ensures ∙ ap (λ (xs : List Row). all_negative (as_rows xs)) c.as_slice.ensures.is in
    let rows = ap as_rows (c.in-Ok.ensures ∙ c.as_slice-2.ensures.is) ∙ c.rows_of_part.ensures in
    ends t (as_rows (listed c.args.columns.now)) (as_takens c.args.taken.now) (minus c.common_sign.result) (power c.in-Some.letter) sign part
    next (rows_of c.in-Ok.part) c.with_part_at.result rows all
    (part_added named (rows_of c.in-Ok.part) next c.unwrap_or-at.result c.with_part_at.result
    (c.unwrap_or-at.ensures ∙ ap₂ unwrap_or (c.first_source.ensures ∙ ap (position named) c.order.ensures) c.standing-2.ensures)
    c.with_part_at.ensures)
