-- What follows of texts that spell a number or a pair.
use Rattle.std.specs.Prelude.{◌≡◌, ℕ, zero, suc, ◌+◌, ◌-◌, ◌%◌, ◌^◌, ◌<◌, ◌⊎◌, List, [], ◌∷◌, ◌++◌, length, Some, None, Option, MatchOption, ◌≢◌, slice_index, refl}
use Rattle.std.proofs.Common.{sym, ap, subst, ◌∙◌, inl, inr, mod-eq_of_lt, arith}
use Rattle.std.proofs.Math.Nat.{mod_self, mod-eq-sub-mod, zero-mod}
use Rattle.std.proofs.lemmas.Str.Parse.{IsNumeralModel, numerals_by_value, tells_digits, not_in_digits}
use Rattle.std.proofs.lemmas.Bool.{cases_lt}
use Rattle.std.specs.Str.Parse.{AllDigits, digits_value}
use Rattle.ring.specs.declared.pair.Pair.{Pair}
use Rattle.ring.specs.declared.word.Word.{Word}
use Rattle.spelling.specs.Texts.{Decimal, Signed, Paired}

own : IsNumeralModel (AllDigits 10) (digits_value 10)
own = numerals_by_value (AllDigits 10) tells_digits

-- digits write one number
pub decimal_one : {t : List ℕ} {a b : ℕ} → Decimal t a → Decimal t b → a ≡ b
decimal_one p q = sym p.writes ∙ q.writes

-- a minus is no digit
pub minus_no_digit : {t ds : List ℕ} {n : ℕ} → t ≡ 45 ∷ ds → Decimal t n → ⊥
minus_no_digit {t} {ds} e d = let h = subst (AllDigits 10) e d.digits in omega (arith, h.0)

-- a number below twice m that m divides is 0 or m
pub none_or_whole : (m k : ℕ) → k < m + m → k % m ≡ 0 → (k ≡ 0) ⊎ (k ≡ m)
none_or_whole m k h e =
    elim (cases_lt k m) [
      | inl l ↦ inl (sym (mod-eq_of_lt l) ∙ e)
      | inr g ↦ let small : k - m < m = omega arith in
          let z : k - m ≡ 0 = sym (mod-eq_of_lt small) ∙ sym (mod-eq-sub-mod g) ∙ e in inr (omega arith)
    ]

-- two numbers below m with the same opposite are the same
pub opposite_one : (m n a b : ℕ) → n < m → a < m → b < m → (a + n) % m ≡ 0 → (b + n) % m ≡ 0 → a ≡ b
opposite_one m n a b hn ha hb p q =
    let x = none_or_whole m (a + n) (omega arith) p in
    let y = none_or_whole m (b + n) (omega arith) q in
    elim x [ inl u ↦ elim y [ inl v ↦ omega arith | inr v ↦ omega arith ] | inr u ↦ elim y [ inl v ↦ omega arith | inr v ↦ omega arith ] ]

-- a text spells one number
pub signed_one : {m : ℕ} {t : List ℕ} {a b : ℕ} → Signed m t a → Signed m t b → a ≡ b
signed_one {m} {t} {a} {b} p q =
    elim p.written [
      | inl d ↦ elim q.written [ inl e ↦ decimal_one d e | inr g ↦ absurd (minus_no_digit g.minus d) ]
      | inr f ↦ elim q.written [
        | inl e ↦ absurd (minus_no_digit f.minus e)
        | inr g ↦
            let same : f.digits ≡ g.digits = cc (f.minus, g.minus) in
            let number : f.n ≡ g.n = decimal_one (subst (λ (ds : List ℕ). Decimal ds f.n) same f.number) g.number in
            let cancels : (a + g.n) % m ≡ 0 = subst (λ (n : ℕ). (a + n) % m ≡ 0) number f.cancels in
            opposite_one m g.n a b g.small p.below q.below cancels g.cancels
      ]
    ]

-- a text that spells a number has no colon
pub no_colon : {m : ℕ} {t : List ℕ} {a : ℕ} → Signed m t a → (i : ℕ) → i < length t → slice_index t i ≢ 58
no_colon {m} {t} s =
    elim s.written [
      | inl d ↦ not_in_digits own t 58 d.digits (λ h. omega arith)
      | inr g ↦ subst (λ (u : List ℕ). (i : ℕ) → i < length u → slice_index u i ≢ 58) (sym g.minus) (after_minus g.digits g.number.digits)
    ]
  where
    after_minus : (ds : List ℕ) → AllDigits 10 ds → (i : ℕ) → i < length (45 ∷ ds) → slice_index (45 ∷ ds) i ≢ 58
    after_minus ds d zero h e = omega arith
    after_minus ds d (suc i) h e = not_in_digits own ds 58 d (λ h. omega arith) i (omega arith) e

-- a text is cut in one way at its first colon
pub same_cut : (xs ys us vs : List ℕ) → xs ++ (58 ∷ ys) ≡ us ++ (58 ∷ vs) → ((i : ℕ) → i < length xs → slice_index xs i ≢ 58) → ((i : ℕ) → i < length us → slice_index us i ≢ 58) → (xs ≡ us) × (ys ≡ vs)
same_cut [] ys [] vs e f g = (refl, cc)
same_cut [] ys (u ∷ us) vs e f g = absurd (g 0 (omega arith) (cc))
same_cut (x ∷ xs) ys [] vs e f g = absurd (f 0 (omega arith) (cc))
same_cut (x ∷ xs) ys (u ∷ us) vs e f g =
    let rest = same_cut xs ys us vs (cc) (λ i h. f (suc i) (omega arith)) (λ i h. g (suc i) (omega arith)) in
    (cc rest.0, rest.1)

-- a text spells one pair
pub paired_one : {t : List ℕ} {a b a' b' : ℕ} → Paired t a b → Paired t a' b' → (a ≡ a') × (b ≡ b')
paired_one {t} {a} {b} {a'} {b'} p q =
    let cut = same_cut p.left p.right q.left q.right (sym p.colon ∙ q.colon) (no_colon p.first) (no_colon q.first) in (
      signed_one (subst (λ (u : List ℕ). Signed (2 ^ 32) u a) cut.0 p.first) q.first,
      signed_one (subst (λ (u : List ℕ). Signed (2 ^ 32) u b) cut.1 p.second) q.second,
    )

-- digits below m spell their number
pub plain : {m : ℕ} {t : List ℕ} {n : ℕ} → Decimal t n → n < m → Signed m t n
plain d h = record { below = h; written = inl d }

-- a minus and digits below m spell the opposite
pub negated : (m : ℕ) {t ds : List ℕ} {n : ℕ} (a : ℕ) → t ≡ 45 ∷ ds → Decimal ds n → n < m → a < m → (a + n ≡ 0) ⊎ (a + n ≡ m) → Signed m t a
negated m {t} {ds} {n} a e d h below c =
    let cancels : (a + n) % m ≡ 0 = elim c [ inl z ↦ ap (λ (k : ℕ). k % m) z ∙ zero-mod m | inr w ↦ ap (λ (k : ℕ). k % m) w ∙ mod_self m ] in
    record { below = below; written = inr (record { digits = ds; n = n; minus = e; number = d; small = h; cancels = cancels }) }

-- where there is no minus and no number, nothing is spelled
pub no_plain : {m : ℕ} {t : List ℕ} → ((ds : List ℕ) → t ≢ 45 ∷ ds) → ((n : ℕ) → Decimal t n → n < m → ⊥) → (a : ℕ) → Signed m t a → ⊥
no_plain minus none a s = elim s.written [ inl d ↦ none a d s.below | inr g ↦ minus g.digits g.minus ]

-- nor where there is a minus, and no number after it
pub no_negated : (m : ℕ) {t ds : List ℕ} → t ≡ 45 ∷ ds → ((n : ℕ) → Decimal ds n → n < m → ⊥) → (a : ℕ) → Signed m t a → ⊥
no_negated m {t} {ds} e none a s =
    elim s.written [
      | inl d ↦ minus_no_digit e d
      | inr g ↦ let same : g.digits ≡ ds = cc (e, g.minus) in none g.n (subst (λ (u : List ℕ). Decimal u g.n) same g.number) g.small
    ]

-- what is read of a text with no minus
pub spelled_plain : (m : ℕ) (t : List ℕ) (o : Option ℕ) → ((ds : List ℕ) → t ≢ 45 ∷ ds) → MatchOption o ((n : ℕ) → Decimal t n → n < m → ⊥) (λ n. Decimal t n × (n < m)) → MatchOption o ((a : ℕ) → Signed m t a → ⊥) (λ a. Signed m t a)
spelled_plain m t None minus none = no_plain minus none
spelled_plain m t (Some n) minus d = plain d.0 d.1

-- what is read of a text that is cut at its first colon
pub spelled_halves : (t l r : List ℕ) (o : Option (Pair Word)) → t ≡ l ++ (58 ∷ r) → ((i : ℕ) → i < length l → slice_index l i ≢ 58) → MatchOption o ((a b : ℕ) → Signed (2 ^ 32) l a → Signed (2 ^ 32) r b → ⊥) (λ p. Signed (2 ^ 32) l p.value.value × Signed (2 ^ 32) r p.rate.value) → MatchOption o ((p : Pair Word) → Paired t p.value.value p.rate.value → ⊥) (λ p. Paired t p.value.value p.rate.value)
spelled_halves t l r None e free none =
    λ p s.
    let cut = same_cut l r s.left s.right (sym e ∙ s.colon) free (no_colon s.first) in
    none p.value.value p.rate.value
    (subst (λ (u : List ℕ). Signed (2 ^ 32) u p.value.value) (sym cut.0) s.first)
    (subst (λ (u : List ℕ). Signed (2 ^ 32) u p.rate.value) (sym cut.1) s.second)
spelled_halves t l r (Some p) e free d = record { left = l; right = r; colon = e; first = d.0; second = d.1 }
