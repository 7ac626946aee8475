-- Cubes compared as arrays of powers, and the sum of an array.
use Rattle.std.proofs.Common.{◌≡◌, ℕ, zero, suc, ◌+◌, ◌<◌, ◌≤◌, Bool, false, List, [], ◌∷◌, length, get_or, take, sum, sym, refl, ap, ◌∙◌, subst, add-one, arith}
use Rattle.std.specs.Ordering.{MatchOrdering, nat_cmp, ordering_then}
use Rattle.std.specs.Cmp.Lexicographic.{slice_cmp}
use Rattle.std.specs.Str.{bytes_eq}
use Rattle.std.specs.declared.cmp.Ordering.{Ordering}
use Rattle.std.specs.declared.cmp.Ordering.TheVariants.{Less, Equal, Greater}
use Rattle.std.proofs.lemmas.Bool.{false≢true}
use Rattle.std.proofs.lemmas.Cmp.{by_ranked, ranked}
use Rattle.std.proofs.lemmas.List.{ext_get_or, take_all}
use Rattle.std.proofs.lemmas.List.Sums.{sum_by_more}
use Rattle.std.proofs.lemmas.Slice.Eq.{bytes_eq-Decides}
use Rattle.algebra.specs.Cubes.{letters, Powers, Same, Before}
use Rattle.algebra.specs.Rows.{degree}
use Rattle.algebra.specs.Sums.{counting, up_to}
use Rattle.algebra.proofs.Sums.{up_to_none, up_to_more}

abbrev reads : List ℕ → Powers
reads xs = λ l. get_or xs l 0

-- arrays that differ have different powers
pub differ : (xs ys : List ℕ) (r : Bool) → length xs ≡ letters → length ys ≡ letters → r ≡ bytes_eq xs ys → r ≡ false → Same (reads xs) (reads ys) → ⊥
differ xs ys r n m is other same =
    let e : xs ≡ ys = ext_get_or 0 xs ys (n ∙ sym m) (λ l h. same l (omega (arith, n))) in
    false≢true (sym other ∙ is ∙ (bytes_eq-Decides xs ys).1 e)

-- the first difference: xs has the smaller power
abbrev First : List ℕ → List ℕ → Type 0
First xs ys = (l : ℕ) × (l < length xs) × (get_or xs l 0 < get_or ys l 0) × ((k : ℕ) → k < l → get_or xs k 0 ≡ get_or ys k 0)

later : (x y : ℕ) (xs ys : List ℕ) → x ≡ y → First xs ys → First (x ∷ xs) (y ∷ ys)
later x y xs ys e f = (suc f.0, (omega (arith, f.1)), f.2, before)
  where
    before : (k : ℕ) → k < suc f.0 → get_or (x ∷ xs) k 0 ≡ get_or (y ∷ ys) k 0
    before zero h = e
    before (suc k) h = f.3 k (omega arith)

weaker : (o : Ordering) (A B C P Q R : Type 0) → MatchOrdering o A B C → (A → P) → (B → Q) → (C → R) → MatchOrdering o P Q R
weaker Less A B C P Q R m f g h = f m
weaker Equal A B C P Q R m f g h = g m
weaker Greater A B C P Q R m f g h = h m

abbrev Compared : Ordering → List ℕ → List ℕ → Type 0
Compared o xs ys = MatchOrdering o (First xs ys) (xs ≡ ys) (First ys xs)

ordered : (xs ys : List ℕ) → length xs ≡ length ys → (r : Ordering) → r ≡ slice_cmp nat_cmp xs ys → Compared r xs ys
ordered [] [] e r is = subst (λ (o : Ordering). Compared o [] []) (sym is) refl
ordered [] (y ∷ ys) e r is = absurd (omega arith)
ordered (x ∷ xs) [] e r is = absurd (omega arith)
ordered (x ∷ xs) (y ∷ ys) e r is =
    let G : Ordering → Type 0 = λ o. Compared o (x ∷ xs) (y ∷ ys) in
    let then : Ordering → Ordering = λ o. ordering_then o (slice_cmp nat_cmp xs ys) in
    by_ranked (x < y) (x ≡ y) (y < x) (nat_cmp x y) (ranked x y (nat_cmp x y) refl)
    (λ o lt. subst G (sym (is ∙ ap then o)) (0, (omega arith), lt, λ k h. absurd (omega arith)))
    (λ o eq.
    weaker r (First xs ys) (xs ≡ ys) (First ys xs) (First (x ∷ xs) (y ∷ ys)) (x ∷ xs ≡ y ∷ ys) (First (y ∷ ys) (x ∷ xs))
    (ordered xs ys (omega arith) r (is ∙ ap then o)) (later x y xs ys eq) (λ q. cc) (later y x ys xs (sym eq)))
    (λ o gt. subst G (sym (is ∙ ap then o)) (0, (omega arith), gt, λ k h. absurd (omega arith)))

-- what the comparison of two arrays says of the cubes
pub compared : (xs ys : List ℕ) (r : Ordering) → length xs ≡ letters → length ys ≡ letters → r ≡ slice_cmp nat_cmp xs ys
    → elim r as (λ o. Type 0) [ Less ↦ Before (reads xs) (reads ys) | Equal ↦ Same (reads xs) (reads ys) | Greater ↦ Before (reads ys) (reads xs) ]
compared xs ys r n m is = go r (ordered xs ys (n ∙ sym m) r is)
  where
    go : (o : Ordering) → Compared o xs ys
        → elim o as (λ v. Type 0) [ Less ↦ Before (reads xs) (reads ys) | Equal ↦ Same (reads xs) (reads ys) | Greater ↦ Before (reads ys) (reads xs) ]
    go Less f = (f.0, (omega (arith, f.1, n)), f.2, f.3)
    go Equal e = λ l h. ap (λ (zs : List ℕ). get_or zs l 0) e
    go Greater f = (f.0, (omega (arith, f.1, m)), f.2, f.3)

-- the sum of an array, as the degree has it
summed : (xs : List ℕ) (n : ℕ) → n ≤ length xs → sum (take n xs) ≡ up_to counting n (reads xs)
summed xs zero h = sym (up_to_none counting (reads xs))
summed xs (suc n) h =
    let rest = summed xs n (omega arith) in
    let more : up_to counting (suc n) (reads xs) ≡ up_to counting n (reads xs) + get_or xs n 0 = up_to_more counting n (reads xs) in
    let next : sum (take (suc n) xs) ≡ sum (take n xs) + get_or xs n 0 = ap (λ (m : ℕ). sum (take m xs)) (sym (add-one n)) ∙ sum_by_more (λ x. x) xs n 0 (omega arith) in
    omega arith

pub degree_is : (xs : List ℕ) → length xs ≡ letters → sum xs ≡ degree (reads xs)
degree_is xs n = ap sum (sym (take_all letters xs (omega arith))) ∙ summed xs letters (omega arith)
