-- The kernels taken, without the covered rows.
use Rattle.std.proofs.Common.{◌≡◌, ℕ, Bool, true, false, cond, eqb, ◌⊎◌, List, [], ◌∷◌, ◌++◌, Some, None, Option, sym, refl, ap, ◌∙◌, subst, inl, inr}
use Rattle.std.proofs.lemmas.List.{append-nil}
use Rattle.std.proofs.lemmas.Bool.{cases_Bool, cond-true, cond-false, and_parts, and_from, or_cases, or_left, or_right, eqb-true, eq-eqb, not-true, not_from_false, false≢true, both_ways}
use Rattle.std.specs.List.{AllByRecursion}
use Rattle.choosing.specs.declared.card.Card.{Card}
use Rattle.choosing.specs.declared.column.Column.{Column}
use Rattle.few.specs.Listed.{listed}
use Rattle.choosing.specs.Taken.{row_of, clear, fits, with_row, cover, taken, none}
use Rattle.choosing.specs.Laws.{Behind, CanBeTaken, TakenInOrder}
use Rattle.choosing.proofs.Walks.{taken_yes, taken_no}

-- ---- one kernel

row_in : (over : ℕ → Bool) (o : Option ℕ) (r : ℕ) → with_row over o r ≡ true → (over r ≡ true) ⊎ (o ≡ Some r)
row_in over None r e = inl e
row_in over (Some q) r e =
    elim (or_cases (eqb r q) (over r) e) [ inl h ↦ inr (ap Some (sym (eqb-true r q h))) | inr h ↦ inl h ]

row_kept : (over : ℕ → Bool) (o : Option ℕ) (r : ℕ) → over r ≡ true → with_row over o r ≡ true
row_kept over None r e = e
row_kept over (Some q) r e = or_right (eqb r q) (over r) e

row_new : (over : ℕ → Bool) (o : Option ℕ) (r : ℕ) → o ≡ Some r → with_row over o r ≡ true
row_new over o r e = subst (λ p. with_row over p r ≡ true) (sym e) (or_left (eqb r r) (over r) (eq-eqb r r refl))

cover_in : (xs set : List Column) (over : ℕ → Bool) (r : ℕ) → cover over xs set r ≡ true → (over r ≡ true) ⊎ Behind xs set r
cover_in xs [] over r e = inl e
cover_in xs (c ∷ cs) over r e =
    elim (cover_in xs cs (with_row over (row_of c.name xs)) r e) [
      | inl h ↦ elim (row_in over (row_of c.name xs) r h) [ inl g ↦ inl g | inr g ↦ inr (inl g) ]
      | inr h ↦ inr (inr h)
    ]

cover_kept : (xs set : List Column) (over : ℕ → Bool) (r : ℕ) → over r ≡ true → cover over xs set r ≡ true
cover_kept xs [] over r e = e
cover_kept xs (c ∷ cs) over r e = cover_kept xs cs (with_row over (row_of c.name xs)) r (row_kept over (row_of c.name xs) r e)

cover_new : (xs set : List Column) (over : ℕ → Bool) (r : ℕ) → Behind xs set r → cover over xs set r ≡ true
cover_new xs [] over r h = absurd h
cover_new xs (c ∷ cs) over r (inl e) =
    cover_kept xs cs (with_row over (row_of c.name xs)) r (row_new over (row_of c.name xs) r e)
cover_new xs (c ∷ cs) over r (inr h) = cover_new xs cs (with_row over (row_of c.name xs)) r h

abbrev pub There : List Column → Column → Type 0
There xs c = (r : ℕ) × (row_of c.name xs ≡ Some r)

clear_there : (over : ℕ → Bool) (o : Option ℕ) → clear over o ≡ true → (r : ℕ) × (o ≡ Some r)
clear_there over None e = absurd (false≢true e)
clear_there over (Some r) e = (r, refl)

clear_free : (over : ℕ → Bool) (o : Option ℕ) (r : ℕ) → o ≡ Some r → clear over o ≡ true → over r ≡ false
clear_free over o r is e = not-true (over r) (subst (λ p. clear over p ≡ true) is e)

clear_from : (over : ℕ → Bool) (o : Option ℕ) (r : ℕ) → o ≡ Some r → over r ≡ false → clear over o ≡ true
clear_from over o r is e = subst (λ p. clear over p ≡ true) (sym is) (not_from_false (over r) e)

fits_has : (over : ℕ → Bool) (xs set : List Column) → fits over xs set ≡ true → AllByRecursion (There xs) set
fits_has over xs [] e = tt
fits_has over xs (c ∷ cs) e =
    let parts = and_parts (clear over (row_of c.name xs)) (fits over xs cs) e in
    (clear_there over (row_of c.name xs) parts.0, fits_has over xs cs parts.1)

fits_free : (over : ℕ → Bool) (xs set : List Column) → fits over xs set ≡ true → (r : ℕ) → Behind xs set r → over r ≡ false
fits_free over xs [] e r h = absurd h
fits_free over xs (c ∷ cs) e r (inl is) =
    clear_free over (row_of c.name xs) r is (and_parts (clear over (row_of c.name xs)) (fits over xs cs) e).0
fits_free over xs (c ∷ cs) e r (inr h) =
    fits_free over xs cs (and_parts (clear over (row_of c.name xs)) (fits over xs cs) e).1 r h

pub fits_from : (over : ℕ → Bool) (xs set : List Column) → AllByRecursion (There xs) set → ((r : ℕ) → Behind xs set r → over r ≡ false) → fits over xs set ≡ true
fits_from over xs [] there free = refl
fits_from over xs (c ∷ cs) there free =
    and_from (clear over (row_of c.name xs)) (fits over xs cs)
    (clear_from over (row_of c.name xs) there.0.0 there.0.1 (free there.0.0 (inl there.0.1)))
    (fits_from over xs cs there.1 (λ r h. free r (inr h)))

-- ---- the list

module _ (set : List Column) where
  after : (ℕ → Bool) → List Card → ℕ → Bool
  after over [] = over
  after over (x ∷ xs) =
      cond (fits over (listed x.columns) set) (after (cover over (listed x.columns) set) xs) (after over xs)

  taken_push : (ys : List Card) (over : ℕ → Bool) (x : Card)
      → taken set over (ys ++ x ∷ []) ≡ taken set over ys ++ cond (fits (after over ys) (listed x.columns) set) (x ∷ []) []
  unfolding after
  taken_push [] over x = refl
  taken_push (y ∷ ys) over x =
      elim (cases_Bool (fits over (listed y.columns) set)) [
        | inl e ↦
            taken_yes set over y (ys ++ x ∷ []) e
            ∙ ap (λ l. y ∷ l) (taken_push ys (cover over (listed y.columns) set) x)
            ∙ ap (λ o. (y ∷ taken set (cover over (listed y.columns) set) ys) ++ cond (fits o (listed x.columns) set) (x ∷ []) [])
            (sym (cond-true (fits over (listed y.columns) set) (after (cover over (listed y.columns) set) ys) (after over ys) e))
            ∙ ap (λ l. l ++ cond (fits (after over (y ∷ ys)) (listed x.columns) set) (x ∷ []) []) (sym (taken_yes set over y ys e))
        | inr e ↦
            taken_no set over y (ys ++ x ∷ []) e
            ∙ taken_push ys over x
            ∙ ap (λ o. taken set over ys ++ cond (fits o (listed x.columns) set) (x ∷ []) [])
            (sym (cond-false (fits over (listed y.columns) set) (after (cover over (listed y.columns) set) ys) (after over ys) e))
            ∙ ap (λ l. l ++ cond (fits (after over (y ∷ ys)) (listed x.columns) set) (x ∷ []) []) (sym (taken_no set over y ys e))
      ]

  ClearOf : ℕ → List Card → Type 0
  ClearOf r ts = AllByRecursion (λ y. Behind (listed y.columns) set r → ⊥) ts

  -- a row that is not covered after ys is behind none of the kernels taken
  after_clear : (ys : List Card) (over : ℕ → Bool) (r : ℕ) → after over ys r ≡ false → (over r ≡ false) × ClearOf r (taken set over ys)
  unfolding after ClearOf
  after_clear [] over r e = (e, tt)
  after_clear (y ∷ ys) over r e =
      elim (cases_Bool (fits over (listed y.columns) set)) [
        | inl f ↦
            let rest = after_clear ys (cover over (listed y.columns) set) r
            (subst (λ o. o r ≡ false) (cond-true (fits over (listed y.columns) set) (after (cover over (listed y.columns) set) ys) (after over ys) f) e) in (
              (elim (cases_Bool (over r)) [
                | inl t ↦ absurd (both_ways (cover over (listed y.columns) set r) rest.0 (cover_kept (listed y.columns) set over r t))
                | inr t ↦ t
              ]),
              subst (λ ts. ClearOf r ts) (sym (taken_yes set over y ys f)) (
                (λ b. both_ways (cover over (listed y.columns) set r) rest.0 (cover_new (listed y.columns) set over r b)),
                rest.1,
              ),
            )
        | inr f ↦
            let rest = after_clear ys over r
            (subst (λ o. o r ≡ false) (cond-false (fits over (listed y.columns) set) (after (cover over (listed y.columns) set) ys) (after over ys) f) e) in
            (rest.0, subst (λ ts. ClearOf r ts) (sym (taken_no set over y ys f)) rest.1)
      ]

  -- and one that is behind none of them is not covered
  after_from : (ys : List Card) (over : ℕ → Bool) (r : ℕ) → over r ≡ false → ClearOf r (taken set over ys) → after over ys r ≡ false
  unfolding after ClearOf
  after_from [] over r e h = e
  after_from (y ∷ ys) over r e h =
      elim (cases_Bool (fits over (listed y.columns) set)) [
        | inl f ↦
            let g : ClearOf r (y ∷ taken set (cover over (listed y.columns) set) ys) = subst (λ ts. ClearOf r ts) (taken_yes set over y ys f) h in
            subst (λ o. o r ≡ false) (sym (cond-true (fits over (listed y.columns) set) (after (cover over (listed y.columns) set) ys) (after over ys) f))
            (
            after_from ys (cover over (listed y.columns) set) r
            (elim (cases_Bool (cover over (listed y.columns) set r)) [
              | inl t ↦
                  elim (cover_in (listed y.columns) set over r t) [
                    | inl o ↦ absurd (both_ways (over r) e o)
                    | inr b ↦ absurd (g.0 b)
                  ]
              | inr t ↦ t
            ])
            g.1
            )
        | inr f ↦
            subst (λ o. o r ≡ false) (sym (cond-false (fits over (listed y.columns) set) (after (cover over (listed y.columns) set) ys) (after over ys) f))
            (after_from ys over r e (subst (λ ts. ClearOf r ts) (taken_no set over y ys f) h))
      ]

  can_from : (ys : List Card) (x : Card) → fits (after none ys) (listed x.columns) set ≡ true → CanBeTaken set ys x
  unfolding ClearOf
  can_from ys x e = record {
    has = fits_has (after none ys) (listed x.columns) set e;
    free = λ r b. (after_clear ys none r (fits_free (after none ys) (listed x.columns) set e r b)).1;
  }

  can_fits : (ys : List Card) (x : Card) → CanBeTaken set ys x → fits (after none ys) (listed x.columns) set ≡ true
  unfolding ClearOf
  can_fits ys x can = fits_from (after none ys) (listed x.columns) set can.has (λ r b. after_from ys none r refl (can.free r b))

pub taken_in_order : TakenInOrder
taken_in_order set ys x = (
  (λ can.
      taken_push set ys none x
      ∙ ap (λ l. taken set none ys ++ l) (cond-true (fits (after set none ys) (listed x.columns) set) (x ∷ []) [] (can_fits set ys x can))),
  (λ cannot.
      elim (cases_Bool (fits (after set none ys) (listed x.columns) set)) [
        | inl e ↦ absurd (cannot (can_from set ys x e))
        | inr e ↦
            taken_push set ys none x
            ∙ ap (λ l. taken set none ys ++ l) (cond-false (fits (after set none ys) (listed x.columns) set) (x ∷ []) [] e)
            ∙ append-nil (taken set none ys)
      ]),
)
