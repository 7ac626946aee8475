-- Steps of the loops over columns.
use Rattle.std.proofs.Common.{◌≡◌, ℕ, ◌+◌, ◌/◌, ◌%◌, ◌<◌, ◌≤◌, Bool, false, eqb, List, [], ◌∷◌, ◌++◌, length, get_or, drop, replicate, Some, sym, ap, ◌∙◌, inl, inr, arith}
use Rattle.std.proofs.lemmas.List.{at_drop_more, get_or-replicate, get_or_past, length-replicate, length_push, append_assoc}
use Rattle.std.proofs.lemmas.Bool.{cases_lt, cond-true, cond-false, eq-eqb, ne_eqb}
use Rattle.choosing.specs.declared.column.Column.{Column}
use Rattle.choosing.specs.Sets.{chosen}
use Rattle.choosing.specs.Taken.{row_of, with_row, cover}

-- a column for places past the end
abbrev pub blank : Column
blank = record { name = 0; row = 0; degree = 0 }

pub blank_mark : (n q : ℕ) → get_or (replicate n false) q false ≡ false
blank_mark n q =
    elim (cases_lt q n) [
      | inl h ↦ get_or-replicate n q false false h
      | inr h ↦ get_or_past (replicate n false) q false (rw (length-replicate n false) h)
    ]

module _ (xs : List Column) (i : ℕ) (h : i < length xs) where
  pub row_of_hit : (n : ℕ) → (get_or xs i blank).name ≡ n → row_of n (drop i xs) ≡ Some (get_or xs i blank).row
  row_of_hit n e =
      at_drop_more (row_of n) xs i blank h ∙ cond-true (eqb (get_or xs i blank).name n) _ _ (eq-eqb _ _ e)

  pub row_of_miss : (n : ℕ) → ((get_or xs i blank).name ≡ n → ⊥) → row_of n (drop i xs) ≡ row_of n (drop (i + 1) xs)
  row_of_miss n e =
      at_drop_more (row_of n) xs i blank h ∙ cond-false (eqb (get_or xs i blank).name n) _ _ (ne_eqb _ _ e)

  pub cover_more : (over : ℕ → Bool) (ys : List Column)
      → cover over ys (drop i xs) ≡ cover (with_row over (row_of (get_or xs i blank).name ys)) ys (drop (i + 1) xs)
  cover_more over ys = at_drop_more (cover over ys) xs i blank h

  module _ (s : ℕ) (p q all : List Column) (few : length p ≤ i) (so_far : p ++ chosen s (drop i xs) ≡ all) where
    pub chosen_yes : s % 2 ≡ 1 → q ≡ p ++ get_or xs i blank ∷ []
        → (length q ≤ i + 1) × (q ++ chosen (s / 2) (drop (i + 1) xs) ≡ all)
    chosen_yes e is = (
      (omega (arith, ap length is, length_push p (get_or xs i blank))),
      (
          ap (λ zs. zs ++ chosen (s / 2) (drop (i + 1) xs)) is
          ∙ append_assoc p (get_or xs i blank ∷ []) (chosen (s / 2) (drop (i + 1) xs))
          ∙ ap (λ zs. p ++ zs) (sym (at_drop_more (chosen s) xs i blank h ∙ cond-true (eqb (s % 2) 1) _ _ (eq-eqb _ _ e)))
          ∙ so_far
          ),
    )

    pub chosen_no : (s % 2 ≡ 1 → ⊥) → q ≡ p → (length q ≤ i + 1) × (q ++ chosen (s / 2) (drop (i + 1) xs) ≡ all)
    chosen_no e is = (
      (omega (arith, ap length is)),
      (
          ap (λ zs. zs ++ chosen (s / 2) (drop (i + 1) xs)) is
          ∙ ap (λ zs. p ++ zs) (sym (at_drop_more (chosen s) xs i blank h ∙ cond-false (eqb (s % 2) 1) _ _ (ne_eqb _ _ e)))
          ∙ so_far
          ),
    )
