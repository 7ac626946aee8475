-- Letters of a cube one after another, and the operand of a letter.
use Rattle.std.proofs.Common.{◌≡◌, ℕ, zero, suc, ◌+◌, ◌-◌, ◌<◌, ◌≤◌, cond, ltb, List, length, get_or, replicate, sym, refl, ap, ◌∙◌, ap₂, ⊎_elim, arith}
use Rattle.std.specs.List.{AllByRecursion}
use Rattle.std.proofs.ByRecursion.{All-append}
use Rattle.std.proofs.lemmas.List.{length-append, length-replicate}
use Rattle.std.proofs.lemmas.Bool.{cases_lt, le-ltb, lt-ltb}
use Rattle.sheet.specs.declared.operand.Operand.{Operand}
use Rattle.sheet.specs.declared.operand.Operand.TheVariants.{Measure, Numeral, Zero}
use Rattle.algebra.specs.Cubes.{Powers}
use Rattle.algebra.specs.Sums.{Adding, counting, repeated, total, up_to}
use Rattle.algebra.proofs.Sums.{total_append}
use Rattle.emission.specs.Steps.{letter_operand, letters_below}

module _ {M : Type 0} (a : Adding M) where
  total_replicate : {X : Type 0} (f : X → M) (n : ℕ) (x : X) → total a f (replicate n x) ≡ repeated a (f x) n
  total_replicate f zero x = refl
  total_replicate f (suc n) x = ap (a.join (f x)) (total_replicate f n x)

  -- the sum over the letters is the sum by powers
  pub letters_total : (f : ℕ → M) (q : Powers) (n : ℕ) → total a f (letters_below q n) ≡ up_to a n (λ l. repeated a (f l) (q l))
  unfolding letters_below up_to
  letters_total f q zero = refl
  letters_total f q (suc n) = total_append a f (letters_below q n) (replicate (q n) n) ∙ ap₂ a.join (letters_total f q n) (total_replicate f (q n) n)

-- there are as many letters as the degree says
pub letters_length : (q : Powers) (n : ℕ) → length (letters_below q n) ≡ up_to counting n q
unfolding letters_below up_to
letters_length q zero = refl
letters_length q (suc n) = length-append (letters_below q n) (replicate (q n) n) ∙ ap₂ ◌+◌ (letters_length q n) (length-replicate (q n) n)

-- only letters with a power are among them
pub letters_all : (P : ℕ → Type 0) (q : Powers) (n : ℕ) → ((l : ℕ) → l < n → 1 ≤ q l → P l) → AllByRecursion P (letters_below q n)
unfolding letters_below
letters_all P q zero h = tt
letters_all P q (suc n) h = All-append P (letters_below q n) _ (letters_all P q n (λ l k. h l (omega arith))) (same (q n) (h n (omega arith)))
  where
    same : (m : ℕ) → (1 ≤ m → P n) → AllByRecursion P (replicate m n)
    same zero k = tt
    same (suc m) k = (k (omega arith), same m (λ _. k (omega arith)))

pub letter_measure : (results : List Operand) (l : ℕ) → l < 8 → letter_operand results l ≡ Measure l
letter_measure results l h = simp (lt-ltb l 8 h)

pub letter_numeral : (results : List Operand) (l : ℕ) → 8 ≤ l → l < 16 → letter_operand results l ≡ Numeral (l - 8)
letter_numeral results l h k = simp (le-ltb l 8 h, lt-ltb l 16 k)

pub letter_part : (results : List Operand) (l : ℕ) → 16 ≤ l → letter_operand results l ≡ get_or results l Zero
letter_part results l h = let k : 8 ≤ l = omega arith in simp (le-ltb l 8 k, le-ltb l 16 h)

-- only at the letters of parts the results matter
pub letter_same : (xs ys : List Operand) (l : ℕ) → (16 ≤ l → get_or xs l Zero ≡ get_or ys l Zero) → letter_operand xs l ≡ letter_operand ys l
letter_same xs ys l h =
    ⊎_elim (λ k. ap (λ o. cond (ltb l 8) (Measure l) o) (simp (lt-ltb l 16 k)))
    (λ k. letter_part xs l k ∙ h k ∙ sym (letter_part ys l k))
    (cases_lt l 16)
