-- The powers of a term, and those of its cube.
use Rattle.std.proofs.Common.{◌≡◌, ℕ, zero, suc, ◌+◌, ◌<◌, ◌≤◌, cond, List, [], ◌∷◌, length, get_or, set, sym, ap, ◌∙◌, subst, ⊎_elim, arith}
use Rattle.std.specs.Array.{IsFromFnResultFrom}
use Rattle.std.specs.Fn.{Called}
use Rattle.std.proofs.lemmas.List.{get_or_past, get_or-set_same, get_or-set_other}
use Rattle.std.proofs.lemmas.Bool.{cases_eq, lt-ltb, le-ltb}
use Rattle.algebra.specs.Cubes.{letter, unit}
use Rattle.algebra.proofs.Degrees.{letter_other, letter_own}
use Rattle.opening.specs.Checks.{power_sum}
use Rattle.opening.specs.Room.{numeral_cube}
use denote.Param.Members.{Mut}

pub power_within : (ps : List ℕ) (k : ℕ) → get_or ps k 0 ≤ power_sum ps
power_within [] k = omega arith
power_within (p ∷ ps) zero = omega arith
power_within (p ∷ ps) (suc k) = omega (arith, power_within ps k)

-- an array that `from_fn` made by calls that leave the function as it is, and give h of the index
pub made_by : {F B : Type 0} (g : Mut F (ℕ × Unit {0}) B) (f : F) (h : ℕ → B) → ((i : ℕ) (y : B) (q : F) → Called g f (i, tt) y q → (q ≡ f) × (y ≡ h i))
    → (ys : List B) (d : B) (n i : ℕ) → IsFromFnResultFrom g f ys i n → (k : ℕ) → i ≤ k → k < i + n → get_or ys k d ≡ h k
made_by g f h s ys d zero i m k a b = absurd (omega arith)
made_by {F} g f h s ys d (suc n) i m k a b =
    let w = s i m.1 m.0 m.3 in
    ⊎_elim
    (λ e. ap (λ j. get_or ys j d) e ∙ m.2.1 d ∙ w.1 ∙ ap h (sym e))
    (λ e. made_by g f h s ys d n (i + 1) (subst (λ (q : F). IsFromFnResultFrom g q ys (i + 1) n) w.0 m.4) k (omega arith) (omega arith))
    (cases_eq k i)

-- all letters have the powers of the eight measures
module _ (all ps : List ℕ) (eight : length ps ≡ 8) (are : (k : ℕ) → k < 32 → get_or all k 0 ≡ get_or ps k 0) where
  pub without_numeral : (m p l : ℕ) → m < 2 → l < 32 → get_or all l 0 ≡ numeral_cube m p l + get_or ps l 0
  without_numeral m p l h k =
      let e : numeral_cube m p l ≡ 0 = ap (λ b. cond b unit (letter (8 + p)) l) (lt-ltb m 2 h) in
      omega (arith, are l k)

  pub with_numeral_at : (m p l : ℕ) → 2 ≤ m → p ≤ 8 → length all ≡ 32 → l < 32 → get_or (set all (8 + p) 1) l 0 ≡ numeral_cube m p l + get_or ps l 0
  with_numeral_at m p l h q r k =
      let e : numeral_cube m p l ≡ letter (8 + p) l = ap (λ b. cond b unit (letter (8 + p)) l) (le-ltb m 2 h) in
      ⊎_elim
      (λ z. let own : letter (8 + p) l ≡ 1 = ap (letter (8 + p)) z ∙ letter_own (8 + p) in
      ap (λ (i : ℕ). get_or (set all (8 + p) 1) i 0) z ∙ get_or-set_same all (8 + p) 1 0 (omega arith) ∙ omega (arith, e, own, get_or_past ps l 0 (omega arith)))
      (λ z. get_or-set_other all (8 + p) l 1 0 z ∙ omega (arith, e, letter_other (8 + p) l z, are l k))
      (cases_eq l (8 + p))
