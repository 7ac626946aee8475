-- The columns that a number names, row by row.
use Rattle.std.proofs.Common.{◌≡◌, ℕ, ◌+◌, ◌/◌, ◌%◌, ◌<◌, ◌≤◌, Bool, true, false, cond, eqb, List, [], ◌∷◌, ◌++◌, map, length, get_or, drop, sym, ap, ◌∙◌, subst, subst₂}
use Rattle.std.specs.List.{AllZip}
use Rattle.std.proofs.lemmas.List.{at_drop_all, at_drop_more, append_assoc, append-nil, map_push}
use Rattle.std.proofs.lemmas.Bool.{cond-true, cond-false, eq-eqb, ne_eqb}
use Rattle.algebra.specs.Cubes.{Powers}
use Rattle.algebra.specs.Rows.{Alike, Row as Term, divides_test, multiples, quotient_row, quotients}
use Rattle.rewriting.specs.Choosing.{named_by}
use Rattle.cubes.specs.Powers.{power}
use Rattle.cubes.specs.Rows.{as_row, as_rows, no_row}
use Rattle.cubes.specs.declared.row.Row.{Row}

abbrev pub named : Powers → ℕ → List Row → List Term
named c n xs = named_by n (quotients c (as_rows xs))

-- what is named of all rows is what was gathered, and what is still to come of the rows from i on
abbrev pub Onward : Powers → ℕ → List Row → ℕ → ℕ → List Row → Type 0
Onward c set rows number i items = (ys : List Term) → AllZip Alike (named c number (drop i rows)) ys → AllZip Alike (named c set rows) (as_rows items ++ ys)

module _ (c : Powers) where
  divided : (n : ℕ) (x : Row) (xs : List Row) (b : Bool) → divides_test c (power x.cube) ≡ b
      → named c n (x ∷ xs) ≡ named_by n (map (quotient_row c) (cond b (as_row x ∷ multiples c (as_rows xs)) (multiples c (as_rows xs))))
  divided n x xs b e = ap (λ (v : Bool). named_by n (map (quotient_row c) (cond v (as_row x ∷ multiples c (as_rows xs)) (multiples c (as_rows xs))))) e

  head_in : (n : ℕ) (x : Row) (xs : List Row) → divides_test c (power x.cube) ≡ true → n % 2 ≡ 1 → named c n (x ∷ xs) ≡ quotient_row c (as_row x) ∷ named c (n / 2) xs
  head_in n x xs e o = divided n x xs true e ∙ cond-true (eqb (n % 2) 1) _ _ (eq-eqb (n % 2) 1 o)

  head_out : (n : ℕ) (x : Row) (xs : List Row) → divides_test c (power x.cube) ≡ true → (n % 2 ≡ 1 → ⊥) → named c n (x ∷ xs) ≡ named c (n / 2) xs
  head_out n x xs e o = divided n x xs true e ∙ cond-false (eqb (n % 2) 1) _ _ (ne_eqb (n % 2) 1 o)

  head_none : (n : ℕ) (x : Row) (xs : List Row) → divides_test c (power x.cube) ≡ false → named c n (x ∷ xs) ≡ named c n xs
  head_none n x xs e = divided n x xs false e

  module _ (set : ℕ) (rows : List Row) (number i : ℕ) (items : List Row) (h : i < length rows) (on : Onward c set rows number i items) where
    pub turn_in : (x : Row) → divides_test c (power (get_or rows i no_row).cube) ≡ true → Alike (quotient_row c (as_row (get_or rows i no_row))) (as_row x) → number % 2 ≡ 1
        → Onward c set rows (number / 2) (i + 1) (items ++ x ∷ [])
    turn_in x e a o ys w =
        let q = at_drop_more (named c number) rows i no_row h ∙ head_in number (get_or rows i no_row) (drop (i + 1) rows) e o in
        let all = on (as_row x ∷ ys) (subst (λ (zs : List Term). AllZip Alike zs (as_row x ∷ ys)) (sym q) (a, w)) in
        subst (AllZip Alike (named c set rows))
        (sym (ap (λ (zs : List Term). zs ++ ys) (map_push as_row items x) ∙ append_assoc (as_rows items) (as_row x ∷ []) ys)) all

    pub turn_out : divides_test c (power (get_or rows i no_row).cube) ≡ true → (number % 2 ≡ 1 → ⊥) → Onward c set rows (number / 2) (i + 1) items
    turn_out e o ys w =
        let q = at_drop_more (named c number) rows i no_row h ∙ head_out number (get_or rows i no_row) (drop (i + 1) rows) e o in
        on ys (subst (λ (zs : List Term). AllZip Alike zs ys) (sym q) w)

    pub turn_none : divides_test c (power (get_or rows i no_row).cube) ≡ false → Onward c set rows number (i + 1) items
    turn_none e ys w =
        let q = at_drop_more (named c number) rows i no_row h ∙ head_none number (get_or rows i no_row) (drop (i + 1) rows) e in
        on ys (subst (λ (zs : List Term). AllZip Alike zs ys) (sym q) w)

  pub at_end : (set : ℕ) (rows : List Row) (number i : ℕ) (items : List Row) → length rows ≤ i → Onward c set rows number i items → AllZip Alike (named c set rows) (as_rows items)
  at_end set rows number i items h on =
      subst (AllZip Alike (named c set rows)) (append-nil (as_rows items)) (on [] (subst (λ (zs : List Term). AllZip Alike zs []) (sym (at_drop_all (named c number) rows i h)) tt))

  pub moved : (set : ℕ) (rows : List Row) (number number' i : ℕ) (items items' : List Row) → number' ≡ number → items' ≡ items → Onward c set rows number i items → Onward c set rows number' i items'
  moved set rows number number' i items items' e f on = subst₂ (λ (n : ℕ) (xs : List Row). Onward c set rows n i xs) (sym e) (sym f) on
