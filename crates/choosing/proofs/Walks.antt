-- Steps of the walk through the kernels.
use Rattle.std.proofs.Common.{◌≡◌, ℕ, ◌+◌, ◌*◌, ◌^◌, ◌<◌, ◌≤◌, Bool, true, false, List, [], ◌∷◌, length, get_or, drop, sum_by, sym, ap, ◌∙◌, subst, inl, inr, arith}
use Rattle.std.proofs.lemmas.List.{at_drop_more, at_drop_all}
use Rattle.std.proofs.lemmas.List.Sums.{sum_by-cons}
use Rattle.std.proofs.lemmas.Bool.{cases_Bool, cond-true, cond-false}
use Rattle.choosing.specs.declared.card.Card.{Card}
use Rattle.choosing.specs.declared.column.Column.{Column}
use Rattle.choosing.specs.declared.tally.Tally.{Tally}
use Rattle.few.specs.Listed.{listed}
use Rattle.choosing.specs.Taken.{covers, fits, cover, taken}
use Rattle.choosing.specs.Savings.{spent, muls_before}
use Rattle.choosing.specs.Tallies.{Looked, Onward, Tallied}

module _ (set : List Column) (over : ℕ → Bool) (x : Card) (ys : List Card) where
  pub taken_yes : fits over (listed x.columns) set ≡ true → taken set over (x ∷ ys) ≡ x ∷ taken set (cover over (listed x.columns) set) ys
  taken_yes e = cond-true (fits over (listed x.columns) set) _ _ e

  pub taken_no : fits over (listed x.columns) set ≡ false → taken set over (x ∷ ys) ≡ taken set over ys
  taken_no e = cond-false (fits over (listed x.columns) set) _ _ e

module _ (set : List Column) (xs : List Card) (i : ℕ) (x : Card) (h : i < length xs) (is : x ≡ get_or xs i x) where
  taken_more : (over : ℕ → Bool) → taken set over (drop i xs) ≡ taken set over (x ∷ drop (i + 1) xs)
  taken_more over = at_drop_more (taken set over) xs i x h ∙ ap (λ y. taken set over (y ∷ drop (i + 1) xs)) (sym is)

  pub onward_more : (t s : Tally) → Looked set x t s → Onward set t (drop i xs) xs → Onward set s (drop (i + 1) xs) xs
  onward_more t s looked on =
      elim (cases_Bool (fits (covers t.covered) (listed x.columns) set)) [
        | inl e ↦
            let more : taken set (covers t.covered) (drop i xs) ≡ x ∷ taken set (covers s.covered) (drop (i + 1) xs) =
            taken_more (covers t.covered) ∙ taken_yes set (covers t.covered) x (drop (i + 1) xs) e
            ∙ ap (λ o. x ∷ taken set o (drop (i + 1) xs)) (sym (looked.covered e)) in
            let rest : List Card = taken set (covers s.covered) (drop (i + 1) xs) in
            record {
              rows = omega (arith, ap length more, looked.rows e, on.rows);
              before =
                  omega (arith, ap (muls_before set) more, sum_by-cons (λ y. spent y.degree set) x rest, looked.before e, on.before);
              after = omega (arith, ap (sum_by (λ y. y.degree)) more, sum_by-cons (λ y. y.degree) x rest, looked.after e, on.after);
            }
        | inr e ↦
            let same : taken set (covers t.covered) (drop i xs) ≡ taken set (covers t.covered) (drop (i + 1) xs) =
            taken_more (covers t.covered) ∙ taken_no set (covers t.covered) x (drop (i + 1) xs) e in
            let kept : Onward set t (drop (i + 1) xs) xs = record {
              rows = omega (arith, ap length same, on.rows);
              before = omega (arith, ap (muls_before set) same, on.before);
              after = omega (arith, ap (sum_by (λ y. y.degree)) same, on.after);
            } in
            subst (λ u. Onward set u (drop (i + 1) xs) xs) (sym (looked.left e)) kept
      ]

pub onward_all : (set : List Column) (xs : List Card) (i : ℕ) (t : Tally) → length xs ≤ i → i ≤ length xs → Onward set t (drop i xs) xs
    → (t.rows ≤ i) × (t.before ≤ 2 ^ 20 * i) × (t.after ≤ 2 ^ 16 * i) → Tallied xs set t
onward_all set xs i t h g on small =
    let end : taken set (covers t.covered) (drop i xs) ≡ [] = at_drop_all (taken set (covers t.covered)) xs i h in
    record {
      rows = omega (arith, ap length end, on.rows);
      before = omega (arith, ap (muls_before set) end, on.before);
      after = omega (arith, ap (sum_by (λ y. y.degree)) end, on.after);
      small = ((omega arith), (omega arith), (omega arith));
    }
