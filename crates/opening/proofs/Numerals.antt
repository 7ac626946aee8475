-- Numerals and their places.
use Rattle.std.proofs.Common.{◌≡◌, ℕ, suc, ◌+◌, ◌≤◌, Bool, true, false, cond, eqb, ◌⊎◌, List, [], ◌∷◌, ◌++◌, length, refl, ap, ◌∙◌, inl, inr, ⊎_elim, arith}
use Rattle.std.proofs.lemmas.Bool.{both_ways, cases_Bool, eq-eqb, not-false, not-true, or_cases, or_parts}
use Rattle.std.proofs.lemmas.List.{length_push}
use Rattle.rewriting.specs.Book.{holds, place, with_numeral}
use Rattle.rewriting.proofs.Books.{place_holds}
use Rattle.opening.specs.Room.{is_new}

-- a number that is not held has its place behind all
pub place_free : (ns : List ℕ) (m : ℕ) → holds ns m ≡ false → place ns m ≡ length ns
place_free [] m h = refl
place_free (n ∷ ns) m h =
    let q = or_parts (eqb n m) (holds ns m) h in
    ap (λ (b : Bool). cond b 0 (suc (place ns m))) q.0 ∙ ap suc (place_free ns m q.1)

-- one numeral more keeps the places of those held, and its own
pub place_push : (ns : List ℕ) (x m : ℕ) → (holds ns m ≡ true) ⊎ (x ≡ m) → place (ns ++ x ∷ []) m ≡ place ns m
place_push [] x m (inl h) = absurd (cc)
place_push [] x m (inr h) = ap (λ (b : Bool). cond b 0 1) (eq-eqb x m h)
place_push (n ∷ ns) x m h =
    go (eqb n m) refl
    (λ e. place_push ns x m (⊎_elim (λ q. ⊎_elim (λ w. absurd (both_ways (eqb n m) e w)) (λ w. inl w) (or_cases (eqb n m) (holds ns m) q)) (λ q. inr q) h))
  where
    go : (b : Bool) → eqb n m ≡ b → (eqb n m ≡ false → place (ns ++ x ∷ []) m ≡ place ns m) → cond b 0 (suc (place (ns ++ x ∷ []) m)) ≡ cond b 0 (suc (place ns m))
    go true e r = refl
    go false e r = ap suc (r e)

-- the numerals with a magnitude: one more where it is new
pub length_new : (ns : List ℕ) (m : ℕ) → is_new ns m ≡ true → length (with_numeral ns m) ≡ length ns + 1
length_new ns m h = ap (λ (b : Bool). length (cond b ns (ns ++ m ∷ []))) (not-true _ h) ∙ length_push ns m

pub length_old : (ns : List ℕ) (m : ℕ) → is_new ns m ≡ false → length (with_numeral ns m) ≡ length ns
length_old ns m h = ap (λ (b : Bool). length (cond b ns (ns ++ m ∷ []))) (not-false _ h)

pub place_within : (ns : List ℕ) (m : ℕ) → place ns m ≤ length ns
place_within ns m = ⊎_elim (λ h. omega (arith, (place_holds ns m h).0)) (λ h. omega (arith, place_free ns m h)) (cases_Bool (holds ns m))
