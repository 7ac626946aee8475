-- Laws of sums over lists and over numbers.
use Rattle.std.proofs.Common.{◌≡◌, ℕ, zero, suc, ◌+◌, ◌*◌, ◌<◌, ◌≤◌, Bool, true, false, cond, not, ◌⊎◌, List, [], ◌∷◌, ◌++◌, map, length, get_or, set, filter, sym, refl, ap, ◌∙◌, subst, ap₂, inl, inr, ⊎_elim, add-zero, add-suc, suc-add, zero-add, arith}
use Rattle.std.specs.List.{swap, AllZip, remove, AllByRecursion}
use Rattle.std.specs.List.Sorted.{IsPermutation}
use Rattle.std.proofs.lemmas.Bool.{cases_eq}
use Rattle.std.proofs.lemmas.List.Sorted.{IsPermutation-keeps}
use Rattle.algebra.specs.Sums.{Adding, counting, total, up_to, repeated}

module _ {M : Type 0} (a : Adding M) where
  pub neutral_join : (x : M) → a.join a.neutral x ≡ x
  neutral_join x = a.comm a.neutral x ∙ a.join_neutral x

  pub join_left : (x y z : M) → a.join x (a.join y z) ≡ a.join y (a.join x z)
  join_left x y z = sym (a.assoc x y z) ∙ ap (λ (t : M). a.join t z) (a.comm x y) ∙ a.assoc y x z

  pub join_swap : (x y z w : M) → a.join (a.join x y) (a.join z w) ≡ a.join (a.join x z) (a.join y w)
  join_swap x y z w = a.assoc x y (a.join z w) ∙ ap (a.join x) (join_left y z w) ∙ sym (a.assoc x z (a.join y w))

  -- over a list

  pub total_append : {X : Type 0} (f : X → M) (xs ys : List X) → total a f (xs ++ ys) ≡ a.join (total a f xs) (total a f ys)
  total_append f [] ys = sym (neutral_join _)
  total_append f (x ∷ xs) ys = ap (a.join (f x)) (total_append f xs ys) ∙ sym (a.assoc _ _ _)

  pub total_map : {X Y : Type 0} (f : Y → M) (g : X → Y) (xs : List X) → total a f (map g xs) ≡ total a (λ x. f (g x)) xs
  total_map f g [] = refl
  total_map f g (x ∷ xs) = ap (a.join (f (g x))) (total_map f g xs)

  pub total_same : {X : Type 0} (f g : X → M) (xs : List X) → ((x : X) → f x ≡ g x) → total a f xs ≡ total a g xs
  total_same f g [] h = refl
  total_same f g (x ∷ xs) h = ap₂ a.join (h x) (total_same f g xs h)

  pub total_all : {X : Type 0} (f g : X → M) (xs : List X) → AllByRecursion (λ x. f x ≡ g x) xs → total a f xs ≡ total a g xs
  total_all f g [] h = refl
  total_all f g (x ∷ xs) h = ap₂ a.join h.0 (total_all f g xs h.1)

  -- lists whose elements correspond
  pub total_each : {X : Type 0} (R : X → X → Type 0) (f : X → M) → ((x y : X) → R x y → f x ≡ f y) → (xs ys : List X) → AllZip R xs ys → total a f xs ≡ total a f ys
  total_each R f h [] [] e = refl
  total_each R f h [] (y ∷ ys) e = absurd e
  total_each R f h (x ∷ xs) [] e = absurd e
  total_each R f h (x ∷ xs) (y ∷ ys) e = ap₂ a.join (h x y e.0) (total_each R f h xs ys e.1)

  pub total_neutral : {X : Type 0} (xs : List X) → total a (λ _. a.neutral) xs ≡ a.neutral
  total_neutral [] = refl
  total_neutral (x ∷ xs) = neutral_join _ ∙ total_neutral xs

  pub total_join : {X : Type 0} (f g : X → M) (xs : List X) → total a (λ x. a.join (f x) (g x)) xs ≡ a.join (total a f xs) (total a g xs)
  total_join f g [] = sym (a.join_neutral _)
  total_join f g (x ∷ xs) = ap (a.join (a.join (f x) (g x))) (total_join f g xs) ∙ join_swap _ _ _ _

  -- what passes a test, and the rest
  pub total_parts : {X : Type 0} (f : X → M) (p : X → Bool) (xs : List X) → total a f xs ≡ a.join (total a f (filter p xs)) (total a f (filter (λ x. not (p x)) xs))
  total_parts f p [] = sym (a.join_neutral _)
  total_parts f p (x ∷ xs) = go (p x) (filter p xs) (filter (λ y. not (p y)) xs) (total_parts f p xs)
    where
      go : (t : Bool) (ys zs : List _) → total a f xs ≡ a.join (total a f ys) (total a f zs)
          → a.join (f x) (total a f xs) ≡ a.join (total a f (cond t (x ∷ ys) ys)) (total a f (cond (not t) (x ∷ zs) zs))
      go true ys zs h = ap (a.join (f x)) h ∙ sym (a.assoc _ _ _)
      go false ys zs h = ap (a.join (f x)) h ∙ join_left _ _ _

  -- one element for another
  pub total_set : {X : Type 0} (f : X → M) (xs : List X) (i : ℕ) (x d : X) → i < length xs → a.join (f (get_or xs i d)) (total a f (set xs i x)) ≡ a.join (f x) (total a f xs)
  total_set f [] i x d h = absurd (omega arith)
  total_set f (y ∷ ys) zero x d h = join_left _ _ _
  total_set f (y ∷ ys) (suc i) x d h = join_left _ _ _ ∙ ap (a.join (f y)) (total_set f ys i x d (omega arith)) ∙ join_left _ _ _

  -- one element by itself, and the rest
  pub total_removed : {X : Type 0} (f : X → M) (xs : List X) (i : ℕ) (d : X) → i < length xs → total a f xs ≡ a.join (f (get_or xs i d)) (total a f (remove xs i))
  total_removed f [] i d h = absurd (omega arith)
  total_removed f (y ∷ ys) zero d h = refl
  total_removed f (y ∷ ys) (suc i) d h = ap (a.join (f y)) (total_removed f ys i d (omega arith)) ∙ join_left _ _ _

  pub total_exchanged : {X : Type 0} (f : X → M) (xs : List X) (i j : ℕ) (d : X) → i < length xs → j < length xs → total a f (set (set xs i (get_or xs j d)) j (get_or xs i d)) ≡ total a f xs
  total_exchanged f [] i j d h k = refl
  total_exchanged f (x ∷ xs) zero zero d h k = refl
  total_exchanged f (x ∷ xs) zero (suc j) d h k = total_set f xs j x d (omega arith)
  total_exchanged f (x ∷ xs) (suc i) zero d h k = total_set f xs i x d (omega arith)
  total_exchanged f (x ∷ xs) (suc i) (suc j) d h k = ap (a.join (f x)) (total_exchanged f xs i j d (omega arith) (omega arith))

  -- a list in another order
  pub total_shuffled : {X : Type 0} (f : X → M) (xs ys : List X) → IsPermutation xs ys → total a f ys ≡ total a f xs
  total_shuffled f xs ys s = IsPermutation-keeps xs (λ l. total a f l ≡ total a f xs) refl step ys s
    where
      step : (l : List _) (i j : ℕ) → i < length l → j < length l → total a f l ≡ total a f xs → total a f (swap l i j) ≡ total a f xs
      step [] i j h k e = e
      step (d ∷ l) i j h k e = total_exchanged f (d ∷ l) i j d h k ∙ e

  -- over the numbers below n

  pub up_to_none : (f : ℕ → M) → up_to a 0 f ≡ a.neutral
  unfolding up_to
  up_to_none f = refl

  pub up_to_more : (n : ℕ) (f : ℕ → M) → up_to a (suc n) f ≡ a.join (up_to a n f) (f n)
  unfolding up_to
  up_to_more n f = refl

  pub up_to_same : (n : ℕ) (f g : ℕ → M) → ((k : ℕ) → k < n → f k ≡ g k) → up_to a n f ≡ up_to a n g
  unfolding up_to
  up_to_same zero f g h = refl
  up_to_same (suc n) f g h = ap₂ a.join (up_to_same n f g (λ k l. h k (omega arith))) (h n (omega arith))

  pub up_to_join : (n : ℕ) (f g : ℕ → M) → up_to a n (λ k. a.join (f k) (g k)) ≡ a.join (up_to a n f) (up_to a n g)
  unfolding up_to
  up_to_join zero f g = sym (a.join_neutral _)
  up_to_join (suc n) f g = ap (λ (t : M). a.join t (a.join (f n) (g n))) (up_to_join n f g) ∙ join_swap _ _ _ _

  pub up_to_neutral : (n : ℕ) (f : ℕ → M) → ((k : ℕ) → k < n → f k ≡ a.neutral) → up_to a n f ≡ a.neutral
  unfolding up_to
  up_to_neutral zero f h = refl
  up_to_neutral (suc n) f h = ap₂ a.join (up_to_neutral n f (λ k l. h k (omega arith))) (h n (omega arith)) ∙ a.join_neutral _

  -- where one number alone counts
  pub up_to_one : (n : ℕ) (f : ℕ → M) (j : ℕ) → j < n → ((k : ℕ) → k < n → (k ≡ j → ⊥) → f k ≡ a.neutral) → up_to a n f ≡ f j
  unfolding up_to
  up_to_one zero f j l h = absurd (omega arith)
  up_to_one (suc n) f j l h = go (cases_eq n j) (λ m. up_to_one n f j m (λ k p. h k (omega arith)))
    where
      go : (n ≡ j) ⊎ (n ≡ j → ⊥) → (j < n → up_to a n f ≡ f j) → a.join (up_to a n f) (f n) ≡ f j
      go (inl e) r = ap₂ a.join (up_to_neutral n f (λ k p. h k (omega arith) (λ q. omega arith))) (ap f e) ∙ neutral_join _
      go (inr e) r = ap₂ a.join (r (omega arith)) (h n (omega arith) e) ∙ a.join_neutral _

  -- the first number by itself
  pub up_to_first : (n : ℕ) (f : ℕ → M) → up_to a (suc n) f ≡ a.join (f 0) (up_to a n (λ k. f (suc k)))
  unfolding up_to
  up_to_first zero f = a.comm _ _
  up_to_first (suc n) f = ap (λ (t : M). a.join t (f (suc n))) (up_to_first n f) ∙ a.assoc _ _ _

  -- the numbers below m, and then n more
  pub up_to_split : (m n : ℕ) (f : ℕ → M) → up_to a (m + n) f ≡ a.join (up_to a m f) (up_to a n (λ k. f (m + k)))
  up_to_split m zero f = ap (λ (t : ℕ). up_to a t f) (add-zero m) ∙ sym (ap (a.join (up_to a m f)) (up_to_none _) ∙ a.join_neutral _)
  up_to_split m (suc n) f =
      ap (λ (t : ℕ). up_to a t f) (add-suc m n) ∙ up_to_more (m + n) f
      ∙ ap (λ (t : M). a.join t (f (m + n))) (up_to_split m n f) ∙ a.assoc _ _ _
      ∙ ap (a.join (up_to a m f)) (sym (up_to_more n (λ k. f (m + k))))

  -- numbers that do not count may be left off at the end
  pub up_to_front : (m n : ℕ) (f : ℕ → M) → ((k : ℕ) → m ≤ k → k < m + n → f k ≡ a.neutral) → up_to a (m + n) f ≡ up_to a m f
  up_to_front m n f h =
      up_to_split m n f ∙ ap (a.join (up_to a m f)) (up_to_neutral n (λ k. f (m + k)) (λ k l. h (m + k) (omega arith) (omega arith))) ∙ a.join_neutral _

  -- a list, by its places
  pub total_places : {X : Type 0} (f : X → M) (xs : List X) (d : X) → total a f xs ≡ up_to a (length xs) (λ k. f (get_or xs k d))
  total_places f [] d = sym (up_to_none _)
  total_places f (x ∷ xs) d = ap (a.join (f x)) (total_places f xs d) ∙ sym (up_to_first (length xs) (λ k. f (get_or (x ∷ xs) k d)))

  pub repeated_add : (x : M) (m n : ℕ) → repeated a x (m + n) ≡ a.join (repeated a x m) (repeated a x n)
  repeated_add x zero n = ap (repeated a x) (zero-add n) ∙ sym (neutral_join _)
  repeated_add x (suc m) n = ap (repeated a x) (suc-add m n) ∙ ap (a.join x) (repeated_add x m n) ∙ sym (a.assoc _ _ _)

-- what respects both sums goes through, as a constant factor does
module _ {M N : Type 0} (a : Adding M) (b : Adding N) (g : M → N) (at_neutral : g a.neutral ≡ b.neutral) (at_join : (x y : M) → g (a.join x y) ≡ b.join (g x) (g y)) where
  pub total_through : {X : Type 0} (f : X → M) (xs : List X) → total b (λ x. g (f x)) xs ≡ g (total a f xs)
  total_through f [] = sym at_neutral
  total_through f (x ∷ xs) = ap (b.join (g (f x))) (total_through f xs) ∙ sym (at_join _ _)

  pub up_to_through : (n : ℕ) (f : ℕ → M) → up_to b n (λ k. g (f k)) ≡ g (up_to a n f)
  unfolding up_to
  up_to_through zero f = sym at_neutral
  up_to_through (suc n) f = ap (λ (t : N). b.join t (g (f n))) (up_to_through n f) ∙ sym (at_join _ _)

-- of whole numbers

pub total_constant : {X : Type 0} (m : ℕ) (xs : List X) → total counting (λ _. m) xs ≡ length xs * m
total_constant m [] = omega arith
total_constant m (x ∷ xs) = omega (arith, total_constant m xs)

pub total_le : {X : Type 0} (f g : X → ℕ) (xs : List X) → ((x : X) → f x ≤ g x) → total counting f xs ≤ total counting g xs
total_le f g [] h = omega arith
total_le f g (x ∷ xs) h = omega (arith, h x, total_le f g xs h)

pub up_to_le : (n : ℕ) (f g : ℕ → ℕ) → ((k : ℕ) → k < n → f k ≤ g k) → up_to counting n f ≤ up_to counting n g
unfolding up_to
up_to_le zero f g h = omega arith
up_to_le (suc n) f g h = omega (arith, up_to_le n f g (λ k l. h k (omega arith)), h n (omega arith))

-- one of the numbers that are added is at most the sum
pub up_to_part : (n : ℕ) (f : ℕ → ℕ) (k : ℕ) → k < n → f k ≤ up_to counting n f
unfolding up_to
up_to_part zero f k h = absurd (omega arith)
up_to_part (suc n) f k h = ⊎_elim (λ e. omega (arith, ap f e)) (λ e. omega (arith, up_to_part n f k (omega arith))) (cases_eq k n)

-- no number larger and one smaller: the sum is smaller
pub up_to_lt : (n : ℕ) (f g : ℕ → ℕ) → ((k : ℕ) → k < n → f k ≤ g k) → (m : ℕ) → m < n → f m < g m → up_to counting n f < up_to counting n g
unfolding up_to
up_to_lt zero f g h m lt s = absurd (omega arith)
up_to_lt (suc n) f g h m lt s =
    elim (cases_eq m n) [
      | inl e ↦ let t : f n < g n = subst (λ k. f k < g k) e s in omega (arith, up_to_le n f g (λ k l. h k (omega arith)), t)
      | inr ne ↦ omega (arith, up_to_lt n f g (λ k l. h k (omega arith)) m (omega arith) s, h n (omega arith))
    ]
