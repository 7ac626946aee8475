-- An expression made of a list of rows, row by row; and how many rows it has.
use Rattle.std.proofs.Common.{◌≡◌, ℕ, ◌+◌, ◌<◌, ◌≤◌, List, [], ◌∷◌, ◌++◌, length, get_or, take, sym, ap, ◌∙◌, subst, arith}
use Rattle.std.proofs.lemmas.List.{take_more, take_all, get_or-take, length-take, length-take-le}
use Rattle.cubes.specs.Powers.{power}
use Rattle.cubes.specs.Rows.{no_row, most_rows, powers_at, Apart}
use Rattle.cubes.specs.Expressions.{Added, Refuses, Unfit, rows_of}
use Rattle.cubes.specs.declared.expression.Expression.{Expression}
use Rattle.cubes.specs.declared.expression.Refused.{Refused}
use Rattle.cubes.specs.declared.expression.Refused.TheVariants.{Full, Double}
use Rattle.cubes.specs.declared.row.Row.{Row}

-- an expression has few rows
pub few_rows : (e : Expression) → length (rows_of e) ≤ most_rows
few_rows e = omega (arith, length-take e.rows.len e.rows.items, e.rows.within)

at_front : (xs : List Row) (n k l : ℕ) → k < n → powers_at (take n xs) k l ≡ powers_at xs k l
at_front xs n k l h = ap (λ (y : Row). power y.cube l) (get_or-take n xs k no_row h)

module _ (xs : List Row) (i : ℕ) (lt : i < length xs) (old : List Row) (so_far : old ≡ take i xs) where
  pub row_more : (new : List Row) → Added old (get_or xs i no_row) new → new ≡ take (i + 1) xs
  row_more new a = a.is ∙ ap (λ (ys : List Row). ys ++ (get_or xs i no_row ∷ [])) so_far ∙ sym (take_more xs i no_row lt)

  pub row_refused : Apart old → (why : Refused) (new : List Row) → Refuses why old (get_or xs i no_row) new → Unfit why xs
  row_refused apart Full new r =
      let e : i ≡ most_rows = omega (arith, ap length so_far, length-take-le i xs (omega arith), r.0) in
      (omega arith, subst (λ n. Apart (take n xs)) e (subst Apart so_far apart))
  row_refused apart Double new r =
      let k = r.1.0 in
      let n : length old ≡ i = ap length so_far ∙ length-take-le i xs (omega arith) in
      let ki : k < i = omega (arith, r.1.1) in
      let short : i < most_rows = omega (arith, r.0) in
      let km : k < most_rows = omega arith in
      let row : (l : ℕ) → powers_at old k l ≡ powers_at xs k l = λ l. ap (λ (ys : List Row). powers_at ys k l) so_far ∙ at_front xs i k l ki in
      λ together.
      together k i ki (omega (arith, length-take most_rows xs))
      (λ l u. at_front xs most_rows k l km ∙ sym (row l) ∙ r.1.2 l u ∙ sym (at_front xs most_rows i l short))

-- so a list that is short and apart is never refused
pub fits : (xs : List Row) (why : Refused) → Unfit why xs → length xs ≤ most_rows → Apart xs → ⊥
fits xs Full u few apart = omega (arith, u.0)
fits xs Double u few apart = u (subst Apart (sym (take_all most_rows xs few)) apart)
