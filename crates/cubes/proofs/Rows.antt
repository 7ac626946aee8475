-- One row more.
use Rattle.std.proofs.Common.{◌≡◌, ℕ, ◌<◌, Result, Ok, Err, List, [], ◌∷◌, ◌++◌, length, sym, ap, ◌∙◌, subst, inl, inr, arith}
use Rattle.std.proofs.lemmas.List.{get_or_append_left, get_or_push, length_push, length-take}
use Rattle.std.proofs.lemmas.Bool.{cases_lt}
use Rattle.cubes.specs.Powers.{power}
use Rattle.cubes.specs.Rows.{no_row, most_rows, powers_at, Apart, Holds}
use Rattle.cubes.specs.Expressions.{Rows, rows_of}
use Rattle.cubes.specs.declared.expression.Expression.{Expression}
use Rattle.cubes.specs.declared.row.Row.{Row}
use Rattle.cubes.proofs.Made.{few_rows}
use Rattle.few.specs.Listed.{listed}
use Rattle.few.specs.declared.few.Few.{Few}

at_left : (xs : List Row) (x : Row) (k l : ℕ) → k < length xs → powers_at (xs ++ (x ∷ [])) k l ≡ powers_at xs k l
at_left xs x k l h = ap (λ (y : Row). power y.cube l) (get_or_append_left xs (x ∷ []) no_row k h)

at_end : (xs : List Row) (x : Row) (k l : ℕ) → length xs ≡ k → powers_at (xs ++ (x ∷ [])) k l ≡ power x.cube l
at_end xs x k l e = ap (λ (y : Row). power y.cube l) (get_or_push xs x no_row k e)

apart_push : (xs : List Row) (x : Row) → Apart xs → (Holds xs (power x.cube) → ⊥) → Apart (xs ++ (x ∷ []))
apart_push xs x apart fresh j k lt h same =
    elim (cases_lt k (length xs)) [
      | inl kx ↦
          let jx : j < length xs = omega arith in
          apart j k lt kx (λ l u. sym (at_left xs x j l jx) ∙ same l u ∙ at_left xs x k l kx)
      | inr kx ↦
          let jx : j < length xs = omega (arith, length_push xs x) in
          let end : length xs ≡ k = omega (arith, length_push xs x) in
          fresh (j, jx, λ l u. sym (at_left xs x j l jx) ∙ same l u ∙ at_end xs x k l end)
    ]

-- the rows stay apart where a row is put behind them that no other has the cube of, if there is room
pub pushed : (old new : Few Row 8) (x : Row) (r : Result (Unit {0}) Row)
    → Apart (listed old)
    → (length (listed old) < most_rows → Holds (listed old) (power x.cube) → ⊥)
    → elim r as (λ v. Type 0) [ Ok _ ↦ listed new ≡ listed old ++ x ∷ [] | Err y ↦ (y ≡ x) × (length (listed old) ≡ 8) × (new ≡ old) ]
    → Apart (listed new)
pushed old new x (Ok u) apart fresh e =
    let room : length (listed old) < most_rows =
    omega (arith, ap length e, length_push (listed old) x, length-take new.len new.items, new.within) in
    subst Apart (sym e) (apart_push (listed old) x apart (fresh room))
pushed old new x (Err y) apart fresh e = subst (λ (f : Few Row 8). Apart (listed f)) (sym e.2) apart

-- what an expression keeps of its rows
pub kept : (e : Expression) (xs : List Row) → xs ≡ rows_of e → Rows e xs
kept e xs are = record {
  are = are;
  few = omega (arith, ap length are, few_rows e);
  apart = subst Apart (sym are) e.apart;
}
