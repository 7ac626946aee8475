use Rattle.std.proofs.Common.{◌≡◌, ◌+◌, ℕ, List, [], ◌∷◌, refl, ap, ◌∙◌, rules}
use Rattle.std.specs.List.{sum_by}
use Rattle.std.proofs.iter.runs.Sources.{sums}
use Rattle.std.proofs.lemmas.List.Sums.{sum_by-cons}
use Rattle.algebra.specs.Counts.{row_multiplications, multiplications}
use Rattle.cubes.specs.Rows.{as_row, as_rows}
use Rattle.cubes.specs.declared.row.Row.{Row}
use Rattle.cubes.proofs.expression.Expression.multiplications.Goals as goal

row_by_row : (xs : List Row) → sum_by (λ x. row_multiplications (as_row x)) xs ≡ multiplications (as_rows xs)
row_by_row [] = refl
row_by_row (x ∷ xs) =
    sum_by-cons (λ x. row_multiplications (as_row x)) x xs ∙ ap (λ (n : ℕ). row_multiplications (as_row x) + n) (row_by_row xs)

pub returns : goal.returns
returns c =
    let xs = c.rows.result.now in
    let e : c.sum.result ≡ sum_by (λ x. row_multiplications (as_row x)) xs = search (rules, sums) in
    e ∙ row_by_row xs ∙ ap (λ (ys : List Row). multiplications (as_rows ys)) c.rows.ensures.are
