-- The rows of noted terms with one numeral more, and the accepted terms with one term more.
use Rattle.std.proofs.Common.{◌≡◌, ℕ, ◌+◌, ◌<◌, Bool, true, false, cond, ◌||◌, eqb, ltb, ◌⊎◌, List, [], ◌∷◌, ◌++◌, map, get_or, sym, refl, ap, ◌∙◌, ap₂, inl, inr, ⊎_elim, arith}
use Rattle.std.specs.List.{AllByRecursion}
use Rattle.std.proofs.lemmas.Bool.{ltb-false}
use Rattle.algebra.specs.Cubes.{letter, product, unit}
use Rattle.algebra.specs.Rows.{Row}
use Rattle.rewriting.specs.Book.{Term, accepted, book, holds, is_negative, magnitude, place, refusal, with_numeral, written_row}
use Rattle.opening.specs.Numbers.{enter_refusal_number}
use Rattle.opening.specs.declared.refusal.EnterRefusal.{EnterRefusal}
use Rattle.opening.specs.declared.refusal.EnterRefusal.TheVariants.{Formula, Coefficient, Powers, Degree, DoubleCube, FullFormula, FullStyle, NinthNumeral}
use Rattle.opening.proofs.Numerals.{place_push}

map_all : {X Y : Type 0} (f g : X → Y) (xs : List X) → AllByRecursion (λ x. f x ≡ g x) xs → map f xs ≡ map g xs
map_all f g [] h = refl
map_all {X} {Y} f g (x ∷ xs) h = ap₂ (λ (y : Y) (ys : List Y). y ∷ ys) h.0 (map_all f g xs h.1)

place_with : (ns : List ℕ) (x m : ℕ) → (holds ns m ≡ true) ⊎ (x ≡ m) → place (with_numeral ns x) m ≡ place ns m
place_with ns x m h = go (ltb x 2 || holds ns x)
  where
    go : (b : Bool) → place (cond b ns (ns ++ x ∷ [])) m ≡ place ns m
    go true = refl
    go false = place_push ns x m h

abbrev row_with : Term → Bool → ℕ → Row
row_with u b p = record { negative = is_negative u; cube = product (cond b unit (letter (8 + p))) (λ l. get_or u.powers l 0) }

-- the row of a term whose numeral is held, or is the new one
pub written_with : (ns : List ℕ) (x : ℕ) (u : Term) → (magnitude u < 2) ⊎ ((holds ns (magnitude u) ≡ true) ⊎ (x ≡ magnitude u)) → written_row (with_numeral ns x) u ≡ written_row ns u
written_with ns x u h = go (ltb (magnitude u) 2) refl h
  where
    go : (b : Bool) → ltb (magnitude u) 2 ≡ b → (magnitude u < 2) ⊎ ((holds ns (magnitude u) ≡ true) ⊎ (x ≡ magnitude u))
        → row_with u b (place (with_numeral ns x) (magnitude u)) ≡ row_with u b (place ns (magnitude u))
    go true e k = refl
    go false e (inl k) = absurd (omega (arith, ltb-false (magnitude u) 2 e, k))
    go false e (inr k) = ap (row_with u false) (place_with ns x (magnitude u) k)

pub written_all : (ns : List ℕ) (x : ℕ) (us : List Term) → AllByRecursion (λ (u : Term). (magnitude u < 2) ⊎ (holds ns (magnitude u) ≡ true)) us → map (written_row (with_numeral ns x)) us ≡ map (written_row ns) us
written_all ns x us h = map_all (written_row (with_numeral ns x)) (written_row ns) us (go us h)
  where
    go : (ts : List Term) → AllByRecursion (λ (u : Term). (magnitude u < 2) ⊎ (holds ns (magnitude u) ≡ true)) ts → AllByRecursion (λ (u : Term). written_row (with_numeral ns x) u ≡ written_row ns u) ts
    go [] k = tt
    go (t ∷ ts) k = (written_with ns x t (⊎_elim (λ q. inl q) (λ q. inr (inl q)) k.0), go ts k.1)

-- one term more
book_push : (noted offered : List Term) (t : Term) → book noted (offered ++ t ∷ []) ≡ cond (eqb (refusal (book noted offered) t) 0) (book noted offered ++ t ∷ []) (book noted offered)
book_push noted [] t = refl
book_push noted (u ∷ us) t = book_push (cond (eqb (refusal noted u) 0) (noted ++ u ∷ []) noted) us t

module _ (offered : List Term) (t : Term) where
  abbrev after : ℕ → List Term
  after n = cond (eqb n 0) (accepted offered ++ t ∷ []) (accepted offered)

  pub accepted_more : 0 ≡ refusal (accepted offered) t → accepted (offered ++ t ∷ []) ≡ accepted offered ++ t ∷ []
  accepted_more h = book_push [] offered t ∙ ap after (sym h)

  pub accepted_same : (why : EnterRefusal) → enter_refusal_number why ≡ refusal (accepted offered) t → accepted (offered ++ t ∷ []) ≡ accepted offered
  accepted_same why h = book_push [] offered t ∙ ap after (sym h) ∙ go why
    where
      go : (w : EnterRefusal) → after (enter_refusal_number w) ≡ accepted offered
      go Formula = refl
      go Coefficient = refl
      go Powers = refl
      go Degree = refl
      go DoubleCube = refl
      go FullFormula = refl
      go FullStyle = refl
      go NinthNumeral = refl
