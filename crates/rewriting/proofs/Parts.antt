-- A style with one part more.
use Rattle.std.proofs.Common.{◌≡◌, ℕ, zero, suc, ◌+◌, ◌<◌, Bool, true, false, cond, List, sym, refl, ap, ◌∙◌, ap₂, add-zero, arith}
use Rattle.ring.specs.Ring.{CommRing}
use Rattle.algebra.specs.Counts.{negations}
use Rattle.algebra.specs.Rows.{Row}
use Rattle.algebra.specs.Sums.{counting, up_to}
use Rattle.algebra.specs.Worth.{worth}
use Rattle.algebra.proofs.Sums.{up_to_same}
use Rattle.rewriting.specs.Styles.{Fits, Kept, Style, equal, over, standing, with_part}

pub equal_refl : (n : ℕ) → equal n n ≡ true
equal_refl zero = refl
equal_refl (suc n) = equal_refl n

pub equal_apart : (m n : ℕ) → (m ≡ n → ⊥) → equal m n ≡ false
equal_apart zero zero h = absurd (h refl)
equal_apart zero (suc n) h = refl
equal_apart (suc m) zero h = refl
equal_apart (suc m) (suc n) h = equal_apart m n (λ e. h (ap suc e))

pub equal_true : (m n : ℕ) → equal m n ≡ true → m ≡ n
equal_true zero zero h = refl
equal_true zero (suc n) h = cc
equal_true (suc m) zero h = cc
equal_true (suc m) (suc n) h = ap suc (equal_true m n h)

module _ (s : Style) (next : ℕ → List Row) (part : List Row) where
  -- the expressions that stood, and the part
  pub at_old : {X : Type 0} (f : List Row → X) (e : ℕ) → e < standing s → f ((with_part s next part).expression e) ≡ f (next e)
  at_old f e l = ap (λ (b : Bool). f (cond b part (next e))) (equal_apart e (standing s) (λ q. omega arith))

  pub at_new : {X : Type 0} (f : List Row → X) → f ((with_part s next part).expression (standing s)) ≡ f part
  at_new f = ap (λ (b : Bool). f (cond b part (next (standing s)))) (equal_refl (standing s))

  pub over_next : (count : List Row → ℕ) → over count (with_part s next part) ≡ up_to counting (standing s) (λ e. count (next e)) + count part
  unfolding up_to
  over_next count =
      ap (λ (n : ℕ). up_to counting n (λ e. count ((with_part s next part).expression e))) more
      ∙ ap₂ ◌+◌ (up_to_same counting (standing s) _ (λ e. count (next e)) (at_old count)) (at_new count)
    where
      more : 16 + (s.parts + 1) ≡ suc (16 + s.parts)
      more = omega arith

  -- what need be shown of a new part, for the worth
  pub kept_with : {S : Type 0} (c : CommRing S) (measures value : ℕ → S) → Fits c measures value (with_part s next part)
      → (value (standing s) ≡ worth c value part → (e : ℕ) → e < standing s → worth c value (s.expression e) ≡ worth c value (next e))
      → Kept c measures value s (with_part s next part)
  kept_with {S} c measures value f h =
      record {
        fits = record { set = f.set; counted = f.counted; made = λ n l. f.made n (omega arith) ∙ sym (values (16 + n) (omega arith)) };
        values = values;
      }
    where
      values : (e : ℕ) → e < standing s → worth c value (s.expression e) ≡ worth c value ((with_part s next part).expression e)
      values e l = h (f.made s.parts (omega arith) ∙ at_new (worth c value)) e l ∙ sym (at_old (worth c value) e l)

  -- and for the negations
  pub negations_with : ((e : ℕ) → e < standing s → negations (s.expression e) ≡ negations (next e)) → negations part ≡ 0 → over negations s ≡ over negations (with_part s next part)
  negations_with h k =
      up_to_same counting (standing s) _ _ h ∙ sym (over_next negations ∙ ap (λ (v : ℕ). up_to counting (standing s) (λ e. negations (next e)) + v) k ∙ add-zero _)
