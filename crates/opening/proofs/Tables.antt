-- A table with one expression set.
use Rattle.std.specs.Result.{IsOk}
use Rattle.std.proofs.Common.{Ok, Err, Result, refl, ◌≡◌, ℕ, ◌<◌, List, [], ◌∷◌, ◌++◌, length, get_or, set, sym, ap, ◌∙◌, arith}
use Rattle.std.proofs.lemmas.List.{get_or-map}
use Rattle.cubes.specs.Powers.{power}
use Rattle.cubes.specs.Rows.{Holds}
use Rattle.cubes.specs.Expressions.{Added, Refuses, rows_of}
use Rattle.cubes.specs.declared.expression.Expression.{Expression}
use Rattle.cubes.specs.declared.expression.Refused.{Refused}
use Rattle.cubes.specs.declared.expression.Refused.TheVariants.{Full, Double}
use Rattle.cubes.specs.declared.row.Row.{Row}
use Rattle.table.proofs.Looks.{rows_in, rows_set_here}

-- one row more there
pub rows_set_push : (es : List Expression) (f : ℕ) (d e : Expression) (x : Row) → f < length es → rows_of e ≡ rows_of (get_or es f d) ++ x ∷ [] → rows_in (set es f e) f ≡ rows_in es f ++ x ∷ []
rows_set_push es f d e x h p = rows_set_here es f e h ∙ p ∙ ap (λ (xs : List Row). xs ++ x ∷ []) (sym (get_or-map rows_of es f d [] h))

-- an expression with room for a row does not refuse it
pub not_refused : (why : Refused) (old : List Row) (x : Row) (new : List Row) → length old < 8 → (Holds old (power x.cube) → ⊥) → Refuses why old x new → ⊥
not_refused Full old x new h fresh r = omega (arith, h, r.0)
not_refused Double old x new h fresh r = fresh r.1

-- so it takes the row
pub row_taken : (r : Result (Unit {0}) Refused) (old : List Row) (x : Row) (new : List Row) → length old < 8 → (Holds old (power x.cube) → ⊥)
    → elim r as (λ _. Type 0) [ Ok _ ↦ Added old x new | Err why ↦ Refuses why old x new ] → IsOk r × Added old x new
row_taken (Ok u) old x new room fresh e = (refl, e)
row_taken (Err why) old x new room fresh e = absurd (not_refused why old x new room fresh e)
