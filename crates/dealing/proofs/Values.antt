-- The kernels taken for a set and what it saves: by cards, and by the rewriting.
use Rattle.std.proofs.Common.{◌≡◌, ℕ, ◌+◌, ◌-◌, ◌*◌, ◌≤◌, Bool, true, false, cond, List, [], ◌∷◌, ◌++◌, length, sum_by, sym, refl, ap, ◌∙◌, subst, ap₂, arith}
use Rattle.std.proofs.lemmas.List.Sums.{sum_by-cons}
use Rattle.algebra.specs.Counts.{less_one, multiplications, row_multiplications}
use Rattle.algebra.specs.Rows.{Distinct, Row, degree}
use Rattle.algebra.specs.Sums.{counting, total}
use Rattle.algebra.proofs.Sums.{total_append, total_same}
use Rattle.choosing.specs.declared.card.Card.{Card}
use Rattle.choosing.specs.declared.column.Column.{Column}
use Rattle.choosing.specs.Savings.{inside, muls, muls_before, saved_adds, saved_muls, saving, spent}
use Rattle.few.specs.Listed.{listed}
use Rattle.choosing.specs.Taken.{cover, fits, none}
use Rattle.choosing.specs.Taken.{taken as cards_taken}
use Rattle.rewriting.specs.Choosing.{weighed}
use Rattle.rewriting.specs.Factor.{Taken, additions_saved, multiplications_saved, saved_by}
use Rattle.rewriting.specs.Styles.{Style}
use Rattle.rewriting.specs.Taking.{Kernel, take_of, taken_after, taken_by, takes_next}
use Rattle.rewriting.proofs.Savings.{length_total, less_one_is, letter_among}
use Rattle.dealing.specs.Cards.{Deals}
use Rattle.dealing.proofs.Finds.{Agrees, AllTell, agrees_more, fits_next}

-- sums
sum_ones : {X : Type 0} (xs : List X) → sum_by (λ _. 1) xs ≡ length xs
sum_ones [] = refl
sum_ones (x ∷ xs) = omega (arith, sum_by-cons (λ _. 1) x xs, sum_ones xs)

sum_same : {X : Type 0} (f g : X → ℕ) → ((x : X) → f x ≡ g x) → (xs : List X) → sum_by f xs ≡ sum_by g xs
sum_same f g h [] = refl
sum_same f g h (x ∷ xs) = omega (arith, sum_by-cons f x xs, sum_by-cons g x xs, h x, sum_same f g h xs)

sum_minus : {X : Type 0} (f g : X → ℕ) → ((x : X) → g x ≤ f x) → (xs : List X) → sum_by (λ x. f x - g x) xs + sum_by g xs ≡ sum_by f xs
sum_minus f g h [] = refl
sum_minus f g h (x ∷ xs) = omega (arith, sum_by-cons f x xs, sum_by-cons g x xs, sum_by-cons (λ y. f y - g y) x xs, h x, sum_minus f g h xs)

-- the products of a kernel's rows: by the columns of a card, and by the rows that they tell
abbrev products : ℕ → List Row → ℕ
products k cols = total counting (λ (col : Row). less_one (k + degree col.cube)) cols

module _ (names : List Row) where
  spent_is : (k : ℕ) (set : List Column) (cols : List Row) → AllTell names set cols → spent k set ≡ products k cols
  spent_is k [] [] t = refl
  spent_is k [] (col ∷ cols) t = absurd t
  spent_is k (x ∷ set) [] t = absurd t
  spent_is k (x ∷ set) (col ∷ cols) t =
      omega (arith, sum_by-cons (λ (c : Column). muls (k + c.degree)) x set, spent_is k set cols t.1, t.0.degree, less_one_is (k + degree col.cube))

  pub length_tell : (set : List Column) (cols : List Row) → AllTell names set cols → length set ≡ length cols
  length_tell [] [] t = refl
  length_tell [] (col ∷ cols) t = absurd t
  length_tell (x ∷ set) [] t = absurd t
  length_tell (x ∷ set) (col ∷ cols) t = omega (arith, length_tell set cols t.1)

-- two columns have a letter between them, so that the products are at least the co-kernel's degree
enough : (k : ℕ) (cols : List Row) → 2 ≤ length cols → Distinct cols → k ≤ products k cols
enough k [] h d = absurd (omega arith)
enough k (x ∷ []) h d = absurd (omega arith)
enough k (x ∷ y ∷ zs) h d = omega (arith, letter_among x y zs d, less_one_is (k + degree x.cube), less_one_is (k + degree y.cube))

module _ (names : List Row) (s : Style) (few : (e : ℕ) → length (s.expression e) ≤ 8) (set : List Column) (cols : List Row) (tell : AllTell names set cols) where
  -- what is added up over the kernels taken, by the degree of the co-kernel
  over_taken : (f : ℕ → ℕ) (ks : List Kernel) (xs : List Card) → Deals names s ks xs → (over : ℕ → Bool) (taken : List Taken) → Agrees over taken
      → total counting (λ (t : Taken). f (degree t.co_kernel)) (taken_after s cols taken ks)
      ≡ total counting (λ (t : Taken). f (degree t.co_kernel)) taken + sum_by (λ (x : Card). f x.degree) (cards_taken set over xs)
  over_taken f [] [] d over taken a = omega arith
  over_taken f [] (x ∷ xs) d over taken a = absurd d
  over_taken f (k ∷ ks) [] d over taken a = absurd d
  over_taken f (k ∷ ks) (x ∷ xs) d over taken a =
      go (takes_next s cols taken k) refl
      (over_taken f ks xs d.1 (cover over (listed x.columns) set) (taken ++ take_of s cols k ∷ []))
      (over_taken f ks xs d.1 over taken a)
      ∙ ap (λ (b : Bool). sum_of taken + sum_by (λ (y : Card). f y.degree) (cond b (x ∷ cards_taken set (cover over (listed x.columns) set) xs) (cards_taken set over xs))) (sym same)
    where
      sum_of : List Taken → ℕ
      sum_of ts = total counting (λ (t : Taken). f (degree t.co_kernel)) ts

      same : fits over (listed x.columns) set ≡ takes_next s cols taken k
      same = ap (λ (cs : List Column). fits over cs set) d.0.columns ∙ fits_next names s few k d.0.named over taken a set cols tell

      more : takes_next s cols taken k ≡ true → Agrees (cover over (listed x.columns) set) (taken ++ take_of s cols k ∷ [])
      more h =
          subst (λ (cs : List Column). Agrees (cover over cs set) (taken ++ take_of s cols k ∷ [])) (sym d.0.columns)
          (agrees_more names s few k d.0.named over taken a set cols tell h)

      go : (b : Bool) → takes_next s cols taken k ≡ b
          → (Agrees (cover over (listed x.columns) set) (taken ++ take_of s cols k ∷ [])
          → total counting (λ (t : Taken). f (degree t.co_kernel)) (taken_after s cols (taken ++ take_of s cols k ∷ []) ks)
          ≡ total counting (λ (t : Taken). f (degree t.co_kernel)) (taken ++ take_of s cols k ∷ []) + sum_by (λ (y : Card). f y.degree) (cards_taken set (cover over (listed x.columns) set) xs))
          → total counting (λ (t : Taken). f (degree t.co_kernel)) (taken_after s cols taken ks)
          ≡ total counting (λ (t : Taken). f (degree t.co_kernel)) taken + sum_by (λ (y : Card). f y.degree) (cards_taken set over xs)
          → total counting (λ (t : Taken). f (degree t.co_kernel)) (taken_after s cols (cond b (taken ++ take_of s cols k ∷ []) taken) ks)
          ≡ total counting (λ (t : Taken). f (degree t.co_kernel)) taken
          + sum_by (λ (y : Card). f y.degree) (cond b (x ∷ cards_taken set (cover over (listed x.columns) set) xs) (cards_taken set over xs))
      go true e p q =
          let r = p (more e) in
          omega (
            arith,
            r,
            total_append counting (λ (t : Taken). f (degree t.co_kernel)) taken (take_of s cols k ∷ []),
            sum_by-cons (λ (y : Card). f y.degree) x (cards_taken set (cover over (listed x.columns) set) xs),
            ap f d.0.degree,
          )
      go false e p q = q

  module _ (ks : List Kernel) (xs : List Card) (d : Deals names s ks xs) where
    sums : (f : ℕ → ℕ) → total counting (λ (t : Taken). f (degree t.co_kernel)) (taken_by s cols ks) ≡ sum_by (λ (x : Card). f x.degree) (cards_taken set none xs)
    sums f = omega (arith, over_taken f ks xs d none [] (λ e k l. refl))

    pub as_many : length (cards_taken set none xs) ≡ length (taken_by s cols ks)
    as_many = omega (arith, sums (λ _. 1), sum_ones (cards_taken set none xs), length_total (taken_by s cols ks))

    pub same_additions : saved_adds set (cards_taken set none xs) ≡ additions_saved cols (taken_by s cols ks)
    same_additions = ap₂ (λ (m n : ℕ). (m - 1) * (n - 1)) as_many (length_tell names set cols tell)

    pub same_multiplications : 2 ≤ length cols → Distinct cols → saved_muls set (cards_taken set none xs) ≡ multiplications_saved cols (taken_by s cols ks)
    same_multiplications two apart =
        let ts = cards_taken set none xs in
        let before : muls_before set ts ≡ sum_by (λ (x : Card). products x.degree cols) ts = sum_same _ _ (λ (x : Card). spent_is names x.degree set cols tell) ts in
        let own : inside set ≡ multiplications cols = spent_is names 0 set cols tell ∙ total_same counting _ row_multiplications cols (λ (col : Row). ap less_one (zero_add (degree col.cube))) in
        let less = sum_minus (λ (x : Card). products x.degree cols) (λ (x : Card). x.degree) (λ (x : Card). enough x.degree cols two apart) ts in
        let saved : total counting (saved_by cols) (taken_by s cols ks) ≡ sum_by (λ (x : Card). products x.degree cols - x.degree) ts = sums (λ k. products k cols - k) in
        omega (arith, before, own, less, saved)
      where
        zero_add : (n : ℕ) → 0 + n ≡ n
        zero_add n = omega arith

    pub same_saving : (w : ℕ) → 2 ≤ length cols → Distinct cols → saving w xs set ≡ weighed w (multiplications_saved cols (taken_by s cols ks)) (additions_saved cols (taken_by s cols ks))
    same_saving w two apart = ap₂ (weighed w) (same_multiplications two apart) same_additions
