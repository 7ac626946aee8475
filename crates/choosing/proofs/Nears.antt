-- A walk through the near kernels alone takes the same ones.
use Rattle.std.proofs.Common.{◌≡◌, ℕ, ◌/◌, ◌%◌, ◌≤◌, Bool, true, false, cond, eqb, List, [], ◌∷◌, length, is_some, Some, None, count_by, filter, Option, sym, refl, ap, ◌∙◌, inl, inr, arith}
use Rattle.std.proofs.lemmas.List.Sums.{sum_by-cons}
use Rattle.std.proofs.lemmas.Bool.{cases_Bool, cond-true, cond-false, cond_both, and_parts, leb-false, false≢true}
use Rattle.choosing.specs.declared.card.Card.{Card}
use Rattle.choosing.specs.declared.column.Column.{Column}
use Rattle.few.specs.Listed.{listed}
use Rattle.choosing.specs.Sets.{chosen}
use Rattle.choosing.specs.Taken.{row_of, clear, fits, cover, taken, none}
use Rattle.choosing.specs.Near.{has, shared, near_to}
use Rattle.choosing.proofs.Walks.{taken_no}

taken_kept : (keep : Card → Bool) (set : List Column)
    → ((over : ℕ → Bool) (x : Card) → keep x ≡ false → fits over (listed x.columns) set ≡ false)
    → (xs : List Card) (over : ℕ → Bool) → taken set over (filter keep xs) ≡ taken set over xs
taken_kept keep set lost [] over = refl
taken_kept keep set lost (x ∷ xs) over =
    elim (cases_Bool (keep x)) [
      | inl e ↦
          ap (taken set over) (cond-true (keep x) (x ∷ filter keep xs) (filter keep xs) e)
          ∙ ap (λ l. cond (fits over (listed x.columns) set) (x ∷ l) (taken set over (filter keep xs)))
          (taken_kept keep set lost xs (cover over (listed x.columns) set))
          ∙ ap (λ l. cond (fits over (listed x.columns) set) (x ∷ taken set (cover over (listed x.columns) set) xs) l)
          (taken_kept keep set lost xs over)
      | inr e ↦
          ap (taken set over) (cond-false (keep x) (x ∷ filter keep xs) (filter keep xs) e)
          ∙ taken_kept keep set lost xs over
          ∙ sym (taken_no set over x xs (lost over x e))
    ]

clear_some : (over : ℕ → Bool) (o : Option ℕ) → clear over o ≡ true → is_some o ≡ true
clear_some over None e = absurd (false≢true e)
clear_some over (Some r) e = refl

fits_all : (over : ℕ → Bool) (xs set : List Column) → fits over xs set ≡ true → length set ≤ shared xs set
fits_all over xs [] e = omega arith
fits_all over xs (c ∷ cs) e =
    let parts : (clear over (row_of c.name xs) ≡ true) × (fits over xs cs ≡ true) = and_parts (clear over (row_of c.name xs)) (fits over xs cs) e in
    omega (
      arith,
      sum_by-cons (λ d. cond (has xs d) 1 0) c cs,
      ap {B = ℕ} (λ b. cond b 1 0) (clear_some over (row_of c.name xs) parts.0),
      fits_all over xs cs parts.1,
    )

pub chosen_count : (p : Column → Bool) (s : ℕ) (cs : List Column) → count_by p (chosen s cs) ≤ count_by p cs
chosen_count p s [] = omega arith
chosen_count p s (c ∷ cs) =
    cond_both (eqb (s % 2) 1) (c ∷ chosen (s / 2) cs) (chosen (s / 2) cs) (λ l. count_by p l ≤ count_by p (c ∷ cs))
    (λ _.
    omega (
      arith,
      sum_by-cons (λ d. cond (p d) 1 0) c cs,
      sum_by-cons (λ d. cond (p d) 1 0) c (chosen (s / 2) cs),
      chosen_count p (s / 2) cs,
    ))
    (λ _. omega (arith, sum_by-cons (λ d. cond (p d) 1 0) c cs, chosen_count p (s / 2) cs))

pub taken_near : (cs : List Column) (s : ℕ) (xs : List Card) → 2 ≤ length (chosen s cs)
    → taken (chosen s cs) none (filter (near_to cs) xs) ≡ taken (chosen s cs) none xs
taken_near cs s xs two =
    taken_kept (near_to cs) (chosen s cs)
    (λ over x far.
    elim (cases_Bool (fits over (listed x.columns) (chosen s cs))) [
      | inl e ↦
          absurd
          (
          omega (
            arith,
            fits_all over (listed x.columns) (chosen s cs) e,
            chosen_count (has (listed x.columns)) s cs,
            leb-false 2 (shared (listed x.columns) cs) far,
          )
          )
      | inr e ↦ e
    ])
    xs none
