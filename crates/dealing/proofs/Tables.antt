-- The rows of a table.
use Rattle.std.proofs.Common.{◌≡◌, ℕ, zero, suc, ◌<◌, ◌≤◌, List, [], ◌∷◌, map, length, get_or, sym, ap, ◌∙◌, ⊎_elim, arith}
use Rattle.std.proofs.lemmas.List.{get_or-map, get_or_past, length-map}
use Rattle.std.proofs.lemmas.Bool.{cases_lt}
use Rattle.algebra.specs.Rows.{Distinct, row_in}
use Rattle.algebra.specs.Rows.{Row as Term}
use Rattle.algebra.proofs.Apart.{distinct_from}
use Rattle.cubes.specs.declared.expression.Expression.{Expression}
use Rattle.cubes.specs.declared.row.Row.{Row}
use Rattle.cubes.specs.Expressions.{rows_of}
use Rattle.cubes.specs.Rows.{Apart, as_row, as_rows, no_row}
use Rattle.table.specs.declared.table.Table.{Table}
use Rattle.table.specs.Of.{rows_at, style_of}
use Rattle.table.proofs.Looks.{few_rows}

-- what holds of the rows of every expression holds of those at any place
at_place : (P : List Row → Type 0) → P [] → ((x : Expression) → P (rows_of x)) → (xs : List Expression) (e : ℕ) → P (get_or (map rows_of xs) e [])
at_place P n f [] e = n
at_place P n f (x ∷ xs) zero = f x
at_place P n f (x ∷ xs) (suc e) = at_place P n f xs e

distinct_rows : (xs : List Row) → Apart xs → Distinct (as_rows xs)
distinct_rows xs a =
    distinct_from (as_rows xs) (λ i j h l q.
    let k : j < length xs = omega (arith, length-map xs as_row) in
    a i j h k (λ n m. sym (at i (omega arith) n) ∙ q n m ∙ at j k n))
  where
    at : (i : ℕ) → i < length xs → (n : ℕ) → (row_in (as_rows xs) i).cube n ≡ (as_row (get_or xs i no_row)).cube n
    at i h n = ap (λ (r : Term). r.cube n) (get_or-map as_row xs i no_row _ h)

pub few_terms : (t : Table) (e : ℕ) → length ((style_of t).expression e) ≤ 8
few_terms t e = omega (arith, length-map (rows_at t e) as_row, few_rows t e)

pub distinct_terms : (t : Table) (e : ℕ) → Distinct ((style_of t).expression e)
distinct_terms t e = at_place (λ (xs : List Row). Distinct (as_rows xs)) tt (λ x. distinct_rows (rows_of x) x.apart) t.expressions e

-- an expression that has a row is one of the thirty-two
expression_below : (t : Table) (e k : ℕ) → k < length (rows_at t e) → e < 32
expression_below t e k h =
    ⊎_elim (λ l. l)
    (λ l. absurd (omega (arith, ap length (get_or_past (map rows_of t.expressions) e [] (omega (arith, length-map t.expressions rows_of, t.all))))))
    (cases_lt e 32)

-- so its places are bytes
pub place_fits : (t : Table) (e k : ℕ) (rows : List Row) → rows ≡ rows_at t e → k < length rows → (e < 32) × (k < 8)
place_fits t e k rows q h =
    let l : k < length (rows_at t e) = omega (arith, ap length q) in
    (expression_below t e k l, omega (arith, few_rows t e))
