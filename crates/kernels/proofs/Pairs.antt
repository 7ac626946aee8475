-- Two rows that are left, by their number.
use Rattle.std.proofs.Common.{◌≡◌, ℕ, zero, suc, ◌+◌, ◌<◌, ◌≤◌, true, false, cond, Option, None, is_some, List, [], ◌∷◌, length, get_or, inl, inr, arith}
use Rattle.std.specs.List.{count_by}
use Rattle.std.proofs.lemmas.Bool.{cases_Bool, cond-true, cond-false}
use Rattle.std.proofs.lemmas.List.Sums.{sum_by-cons, get_or-le-sum_by}

module _ {X : Type 0} where
  abbrev one : Option X → ℕ
  one x = cond (is_some x) 1 0

  abbrev left : List (Option X) → ℕ
  left xs = count_by is_some xs

  more : (x : Option X) (xs : List (Option X)) → is_some x ≡ true → left (x ∷ xs) ≡ 1 + left xs
  more x xs t = let e : one x ≡ 1 = cond-true (is_some x) 1 0 t in omega (arith, sum_by-cons one x xs, e)

  same : (x : Option X) (xs : List (Option X)) → is_some x ≡ false → left (x ∷ xs) ≡ left xs
  same x xs f = let e : one x ≡ 0 = cond-false (is_some x) 1 0 f in omega (arith, sum_by-cons one x xs, e)

  first : (xs : List (Option X)) → 1 ≤ left xs → (k : ℕ) × (k < length xs) × (is_some (get_or xs k None) ≡ true)
  first [] h = absurd (omega arith)
  first (x ∷ xs) h =
      elim (cases_Bool (is_some x)) [
        | inl t ↦ (0, (omega arith), t)
        | inr f ↦ let r = first xs (omega (arith, same x xs f)) in (suc r.0, (omega (arith, r.1)), r.2)
      ]

  pub pair : (xs : List (Option X)) → 2 ≤ left xs
      → (k : ℕ) × (m : ℕ) × (k < m) × (m < length xs) × (is_some (get_or xs k None) ≡ true) × (is_some (get_or xs m None) ≡ true)
  pair [] h = absurd (omega arith)
  pair (x ∷ xs) h =
      elim (cases_Bool (is_some x)) [
        | inl t ↦ let r = first xs (omega (arith, more x xs t)) in (0, suc r.0, (omega arith), (omega (arith, r.1)), t, r.2)
        | inr f ↦ let r = pair xs (omega (arith, same x xs f)) in (suc r.0, suc r.1, (omega (arith, r.2)), (omega (arith, r.3)), r.4, r.5)
      ]

  there : (xs : List (Option X)) (m : ℕ) → m < length xs → is_some (get_or xs m None) ≡ true → 1 ≤ left xs
  there xs m h t = let e : one (get_or xs m None) ≡ 1 = cond-true (is_some (get_or xs m None)) 1 0 t in omega (arith, get_or-le-sum_by one xs m None h, e)

  pub lone : (xs : List (Option X)) → left xs < 2 → (k m : ℕ) → k < m → m < length xs
      → is_some (get_or xs k None) ≡ true → is_some (get_or xs m None) ≡ true → ⊥
  lone [] few k m lt h s t = omega arith
  lone (x ∷ xs) few k zero lt h s t = omega arith
  lone (x ∷ xs) few zero (suc m) lt h s t = omega (arith, more x xs s, there xs m (omega arith) t)
  lone (x ∷ xs) few (suc k) (suc m) lt h s t = lone xs (omega (arith, sum_by-cons one x xs)) k m (omega arith) (omega arith) s t
