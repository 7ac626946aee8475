-- The first row that is like another.
use Rattle.std.proofs.Common.{◌≡◌, ℕ, suc, ◌+◌, Bool, true, false, cond, ◌||◌, not, List, [], ◌∷◌, length, nat_lt, Some, None, Option, sym, refl, ◌∙◌, subst, arith}
use Rattle.std.specs.List.{position, position_or_len}
use Rattle.std.proofs.lemmas.Grind.{common_steps}
use Rattle.std.proofs.lemmas.Bool.{lt-ltb}
use Rattle.algebra.specs.Rows.{Row as Term}
use Rattle.rewriting.specs.Taking.{alike, found, spot}
use Rattle.cubes.specs.Rows.{as_row, as_rows}
use Rattle.cubes.specs.declared.row.Row.{Row}

-- the first row that is like another
module _ (r : Term) where
  abbrev pub like : Row → Bool
  like x = alike (as_row x) r

  found_is : (xs : List Row) → found (as_rows xs) r ≡ nat_lt (position_or_len like xs) (length xs)
  found_is [] = refl
  found_is (x ∷ xs) = go (like x) (found_is xs)
    where
      go : (b : Bool) → found (as_rows xs) r ≡ nat_lt (position_or_len like xs) (length xs)
          → (b || found (as_rows xs) r) ≡ nat_lt (cond (not b) (1 + position_or_len like xs) 0) (length (x ∷ xs))
      go true h = sym (lt-ltb 0 (length (x ∷ xs)) (omega arith))
      go false h = h ∙ grind (arith, common_steps)

  spot_is : (xs : List Row) → spot (as_rows xs) r ≡ position_or_len like xs
  spot_is [] = refl
  spot_is (x ∷ xs) = go (like x) (spot_is xs)
    where
      go : (b : Bool) → spot (as_rows xs) r ≡ position_or_len like xs → cond b 0 (suc (spot (as_rows xs) r)) ≡ cond (not b) (1 + position_or_len like xs) 0
      go true h = refl
      go false h = omega (arith, h)

  pub first_like : (xs : List Row) (o : Option ℕ) → o ≡ position like xs
      → elim o as (λ _. Type 0) [ Some k ↦ (found (as_rows xs) r ≡ true) × (k ≡ spot (as_rows xs) r) | None ↦ found (as_rows xs) r ≡ false ]
  first_like xs o h =
      subst (λ (o : Option ℕ). elim o as (λ _. Type 0) [ Some k ↦ (found (as_rows xs) r ≡ true) × (k ≡ spot (as_rows xs) r) | None ↦ found (as_rows xs) r ≡ false ]) (sym h)
      (go (nat_lt (position_or_len like xs) (length xs)) (found_is xs))
    where
      go : (b : Bool) → found (as_rows xs) r ≡ b
          → elim (cond b (Some (position_or_len like xs)) None) as (λ _. Type 0) [ Some k ↦ (found (as_rows xs) r ≡ true) × (k ≡ spot (as_rows xs) r) | None ↦ found (as_rows xs) r ≡ false ]
      go true f = (f, sym (spot_is xs))
      go false f = f
