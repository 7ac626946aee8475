-- Lists written into a slice, one after another.
use Rattle.std.proofs.Common.{◌≡◌, ℕ, zero, suc, ◌+◌, ◌^◌, ◌<◌, ◌≤◌, List, [], ◌∷◌, ◌++◌, length, drop, set, sym, refl, ap, ◌∙◌, inl, inr, arith}
use Rattle.std.proofs.lemmas.List.{length-append}
use Rattle.std.proofs.lemmas.Bool.{cases_lt}
use Rattle.kernels.specs.Lists.{overlay, Written}
use Rattle.kernels.specs.declared.kernel.Kernel.{Kernel}

pub overlay_nil : {X : Type 0} (os : List X) (n : ℕ) → overlay os n [] ≡ os
overlay_nil [] n = refl
overlay_nil (o ∷ os) zero = refl
overlay_nil (o ∷ os) (suc n) = ap (λ t. o ∷ t) (overlay_nil os n)

-- a place written is a list of one
pub overlay_one : {X : Type 0} (os : List X) (n : ℕ) (x : X) → set os n x ≡ overlay os n (x ∷ [])
overlay_one [] n x = refl
overlay_one (o ∷ os) zero x = ap (λ t. x ∷ t) (sym (overlay_nil os zero))
overlay_one (o ∷ os) (suc n) x = ap (λ t. o ∷ t) (overlay_one os n x)

-- nothing is written past the end
pub overlay_past : {X : Type 0} (os : List X) (n : ℕ) (xs : List X) → length os ≤ n → overlay os n xs ≡ os
overlay_past [] n xs h = refl
overlay_past (o ∷ os) zero xs h = absurd (omega arith)
overlay_past (o ∷ os) (suc n) xs h = ap (λ t. o ∷ t) (overlay_past os n xs (omega arith))

pub length_overlay : {X : Type 0} (os : List X) (n : ℕ) (xs : List X) → length (overlay os n xs) ≡ length os
length_overlay [] n xs = refl
length_overlay (o ∷ os) zero [] = refl
length_overlay (o ∷ os) zero (x ∷ xs) = ap suc (length_overlay os zero xs)
length_overlay (o ∷ os) (suc n) xs = ap suc (length_overlay os n xs)

-- one list after another
pub overlay_join : {X : Type 0} (os : List X) (n : ℕ) (xs ys : List X) (m : ℕ) → m ≡ n + length xs
    → overlay (overlay os n xs) m ys ≡ overlay os n (xs ++ ys)
overlay_join [] n xs ys m e = refl
overlay_join (o ∷ os) zero [] ys m e = ap (λ t. overlay (o ∷ os) t ys) (let z : m ≡ 0 = omega arith in z)
overlay_join (o ∷ os) zero (x ∷ xs) ys zero e = absurd (omega arith)
overlay_join (o ∷ os) zero (x ∷ xs) ys (suc m) e = ap (λ t. x ∷ t) (overlay_join os zero xs ys m (omega arith))
overlay_join (o ∷ os) (suc n) xs ys zero e = absurd (omega arith)
overlay_join (o ∷ os) (suc n) xs ys (suc m) e = ap (λ t. o ∷ t) (overlay_join os n xs ys m (omega arith))

-- once the end is passed, nothing more is written
pub overlay_full : {X : Type 0} (os : List X) (n : ℕ) (xs ys : List X) → length os ≤ n + length xs
    → overlay os n (xs ++ ys) ≡ overlay os n xs
overlay_full [] n xs ys h = refl
overlay_full (o ∷ os) zero [] ys h = absurd (omega arith)
overlay_full (o ∷ os) zero (x ∷ xs) ys h = ap (λ t. x ∷ t) (overlay_full os zero xs ys (omega arith))
overlay_full (o ∷ os) (suc n) xs ys h = ap (λ t. o ∷ t) (overlay_full os n xs ys (omega arith))

-- all written, where there is room: the list, and what stood behind it
pub overlay_all : {X : Type 0} (os : List X) (xs : List X) → length xs ≤ length os → overlay os zero xs ≡ xs ++ drop (length xs) os
overlay_all [] [] h = refl
overlay_all [] (x ∷ xs) h = absurd (omega arith)
overlay_all (o ∷ os) [] h = refl
overlay_all (o ∷ os) (x ∷ xs) h = ap (λ t. x ∷ t) (overlay_all os xs (omega arith))

-- a list that is not empty hides what was written at its first place
pub overlay_over : {X : Type 0} (os : List X) (n : ℕ) (x : X) (xs : List X) → 0 < length xs → overlay (set os n x) n xs ≡ overlay os n xs
overlay_over os n x [] h = absurd (omega arith)
overlay_over [] n x (y ∷ ys) h = refl
overlay_over (o ∷ os) zero x (y ∷ ys) h = refl
overlay_over (o ∷ os) (suc n) x (y ∷ ys) h = ap (λ t. o ∷ t) (overlay_over os n x (y ∷ ys) h)

-- a written list that is also something else
pub written_as : (Is As : List Kernel → Type 0) (from : ℕ) (old new : List Kernel) (m : ℕ) (h : Written Is from old new m) → As h.list → Written As from old new m
written_as Is As from old new m h also = record { list = h.list; is = also; end = h.end; written = h.written }

-- one list written behind another is their joined list written
module _ (Is As Both : List Kernel → Type 0) (from m z : ℕ) (old mid new : List Kernel) (short : length old < 2 ^ 64)
    (f : Written Is from old mid m) (g : Written As m mid new z) where
  both : overlay (overlay old from f.list) m g.list ≡ overlay old from (f.list ++ g.list)
  both =
      elim (cases_lt (from + length f.list) (2 ^ 64)) [
        | inl h ↦ overlay_join old from f.list g.list m (omega (arith, f.end))
        | inr h ↦
            overlay_past (overlay old from f.list) m g.list (omega (arith, length_overlay old from f.list, f.end))
            ∙ sym (overlay_full old from f.list g.list (omega arith))
      ]

  pub written_join : Both (f.list ++ g.list) → Written Both from old new z
  written_join is = record {
    list = f.list ++ g.list;
    is = is;
    end = omega (arith, f.end, g.end, length-append f.list g.list);
    written = g.written ∙ ap (λ t. overlay t m g.list) f.written ∙ both;
  }
