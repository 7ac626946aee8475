-- The accepted terms, and the style that they make.
use Rattle.std.proofs.Common.{◌≡◌, ℕ, zero, suc, ◌+◌, ◌<◌, ◌≤◌, Bool, true, false, cond, not, ◌&&◌, ◌||◌, eqb, ltb, leb, ◌⊎◌, List, [], ◌∷◌, ◌++◌, length, get_or, sym, refl, ap, ◌∙◌, subst, ap₂, inl, inr, ⊎_elim, arith}
use Rattle.std.specs.List.{AllByRecursion}
use Rattle.std.proofs.ByRecursion.{All-push, All-weaker}
use Rattle.std.proofs.lemmas.List.{get_or_past, length_push, append-nil}
use Rattle.std.proofs.lemmas.Bool.{eqb-true, eqb-false, eq-eqb, ltb-true, ltb-false, leb-false, or_parts, or_left, or_right, or_cases, not-false, both_ways}
use Rattle.ring.specs.Ring.{CommRing, ones_sum}
use Rattle.algebra.specs.Cubes.{letter, unit}
use Rattle.algebra.specs.Sums.{adding, counting, multiplying, repeated, total, up_to}
use Rattle.algebra.specs.Worth.{cube_worth, row_worth, worth}
use Rattle.algebra.proofs.Sums.{neutral_join, total_all, total_map, up_to_front, up_to_same}
use Rattle.algebra.proofs.Worths.{worth_letter, worth_product, worth_unit}
use Rattle.rewriting.specs.Book.{Term, accepted, book, formula_value, gathered, has_cube, holds, is_negative, magnitude, numerals_of, place, refusal, same_powers, term_value, under, with_numeral, written, written_row}
use Rattle.rewriting.specs.Promises.{WrittenWorth}
use Rattle.rewriting.specs.Styles.{Fits, equal}
use Rattle.rewriting.proofs.Parts.{equal_true}

-- a numeral is at its place
pub place_holds : (ns : List ℕ) (m : ℕ) → holds ns m ≡ true → (place ns m < length ns) × (get_or ns (place ns m) 0 ≡ m)
place_holds [] m h = absurd (cc)
place_holds (n ∷ ns) m h = go (eqb n m) refl (place_holds ns m)
  where
    go : (b : Bool) → eqb n m ≡ b → (holds ns m ≡ true → (place ns m < length ns) × (get_or ns (place ns m) 0 ≡ m)) → (cond b 0 (suc (place ns m)) < suc (length ns)) × (get_or (n ∷ ns) (cond b 0 (suc (place ns m))) 0 ≡ m)
    go true e r = (omega arith, eqb-true n m e)
    go false e r =
        let q : holds ns m ≡ true = ⊎_elim (λ t. absurd (both_ways (eqb n m) e t)) (λ t. t) (or_cases (eqb n m) (holds ns m) h) in
        (omega (arith, (r q).0), (r q).1)

-- one more numeral keeps those that are held
pub holds_push : (ns : List ℕ) (x m : ℕ) → holds ns m ≡ true → holds (ns ++ x ∷ []) m ≡ true
holds_push [] x m h = cc
holds_push (n ∷ ns) x m h = ⊎_elim (λ e. or_left (eqb n m) _ e) (λ e. or_right (eqb n m) _ (holds_push ns x m e)) (or_cases (eqb n m) (holds ns m) h)

holds_last : (ns : List ℕ) (m : ℕ) → holds (ns ++ m ∷ []) m ≡ true
holds_last [] m = or_left (eqb m m) false (eq-eqb m m refl)
holds_last (n ∷ ns) m = or_right (eqb n m) _ (holds_last ns m)

pub gathered_push : (ns : List ℕ) (ts : List Term) (t : Term) → gathered ns (ts ++ t ∷ []) ≡ with_numeral (gathered ns ts) (magnitude t)
gathered_push ns [] t = refl
gathered_push ns (u ∷ ts) t = gathered_push (with_numeral ns (magnitude u)) ts t

-- a numeral letter's magnitude is held
abbrev pub Numbered : List ℕ → Term → Type 0
Numbered ns t = (magnitude t < 2) ⊎ (holds ns (magnitude t) ≡ true)

held_more : (ns : List ℕ) (x : ℕ) (t : Term) → Numbered ns t → Numbered (with_numeral ns x) t
held_more ns x t (inl h) = inl h
held_more ns x t (inr h) = inr (go (ltb x 2 || holds ns x))
  where
    go : (b : Bool) → holds (cond b ns (ns ++ x ∷ [])) (magnitude t) ≡ true
    go true = h
    go false = holds_push ns x (magnitude t) h

held_now : (ns : List ℕ) (t : Term) → Numbered (with_numeral ns (magnitude t)) t
held_now ns t = go (ltb (magnitude t) 2 || holds ns (magnitude t)) refl
  where
    go : (b : Bool) → (ltb (magnitude t) 2 || holds ns (magnitude t)) ≡ b → (magnitude t < 2) ⊎ (holds (cond b ns (ns ++ magnitude t ∷ [])) (magnitude t) ≡ true)
    go true e = ⊎_elim (λ q. inl (ltb-true (magnitude t) 2 q)) (λ q. inr q) (or_cases (ltb (magnitude t) 2) (holds ns (magnitude t)) e)
    go false e = inr (holds_last ns (magnitude t))

-- terms of one formula are unlike one another
abbrev pub Unlike : Term → Term → Type 0
Unlike u t = (same_powers u.powers t.powers && eqb (magnitude u) (magnitude t)) ≡ false

abbrev pub Unlikes : List Term → Type 0
Unlikes [] = Unit {0}
Unlikes (u ∷ us) = AllByRecursion (Unlike u) us × Unlikes us

unlike_all : (us : List Term) (t : Term) → has_cube us t ≡ false → AllByRecursion (λ (u : Term). Unlike u t) us
unlike_all [] t h = tt
unlike_all (u ∷ us) t h = let q = or_parts (same_powers u.powers t.powers && eqb (magnitude u) (magnitude t)) (has_cube us t) h in (q.0, unlike_all us t q.1)

unlikes_push : (us : List Term) (t : Term) → Unlikes us → AllByRecursion (λ (u : Term). Unlike u t) us → Unlikes (us ++ t ∷ [])
unlikes_push [] t d a = (tt, tt)
unlikes_push (u ∷ us) t d a = (All-push (Unlike u) us t d.0 a.0, unlikes_push us t d.1 a.1)

pub under_push : (e : ℕ) (ts : List Term) (t : Term) → under e (ts ++ t ∷ []) ≡ under e ts ++ cond (equal e t.formula) (t ∷ []) []
under_push e [] t = refl
under_push e (u ∷ ts) t = go (equal e u.formula) _ _ _ (under_push e ts t)
  where
    go : (b : Bool) (xs ys zs : List Term) → xs ≡ ys ++ zs → cond b (u ∷ xs) xs ≡ cond b (u ∷ ys) ys ++ zs
    go true xs ys zs h = ap (λ (l : List Term). u ∷ l) h
    go false xs ys zs h = h

-- what is known of the accepted terms
pub record Sound (noted : List Term) : Type 0 where
  pub within : AllByRecursion (λ (t : Term). t.formula ≤ 15) noted
  pub some : AllByRecursion (λ (t : Term). 1 ≤ magnitude t) noted
  pub eight : AllByRecursion (λ (t : Term). length t.powers ≡ 8) noted
  pub few : length (numerals_of noted) ≤ 8
  pub held : AllByRecursion (Numbered (numerals_of noted)) noted
  pub light : AllByRecursion (λ (t : Term). total counting (λ p. p) t.powers ≤ 24) noted
  pub eighty : length noted ≤ 80
  pub rows : (e : ℕ) → (length (under e noted) ≤ 8) × Unlikes (under e noted)

passed : (b : Bool) (k r : ℕ) → cond b (suc k) r ≡ 0 → (b ≡ false) × (r ≡ 0)
passed true k r h = absurd (omega arith)
passed false k r h = (refl, h)

sound_more : (noted : List Term) (t : Term) → Sound noted → refusal noted t ≡ 0 → Sound (noted ++ t ∷ [])
sound_more noted t s h =
    let p₁ = passed (ltb 15 t.formula) 0 _ h in
    let p₂ = passed (eqb (magnitude t) 0 || ltb 65535 (magnitude t)) 1 _ p₁.1 in
    let p₃ = passed (not (eqb (length t.powers) 8)) 2 _ p₂.1 in
    let p₄ = passed (ltb 24 (total counting (λ p. p) t.powers)) 3 _ p₃.1 in
    let p₅ = passed (has_cube (under t.formula noted) t) 4 _ p₄.1 in
    let p₆ = passed (leb 8 (length (under t.formula noted))) 5 _ p₅.1 in
    let p₇ = passed (leb 80 (length noted)) 6 _ p₆.1 in
    let p₈ = passed (ltb 8 (length (with_numeral (numerals_of noted) (magnitude t)))) 7 0 p₇.1 in
    let e = sym (gathered_push [] noted t) in
    record {
      within = All-push _ noted t s.within (ltb-false 15 t.formula p₁.0);
      some = All-push _ noted t s.some (positive (magnitude t) (eqb-false (magnitude t) 0 (or_parts (eqb (magnitude t) 0) _ p₂.0).0));
      eight = All-push _ noted t s.eight (eqb-true (length t.powers) 8 (not-false _ p₃.0));
      few = subst (λ (ns : List ℕ). length ns ≤ 8) e (ltb-false 8 _ p₈.0);
      held = subst (λ (ns : List ℕ). AllByRecursion (Numbered ns) (noted ++ t ∷ [])) e
          (All-push _ noted t (All-weaker _ _ (held_more (numerals_of noted) (magnitude t)) noted s.held) (held_now (numerals_of noted) t));
      light = All-push _ noted t s.light (ltb-false 24 _ p₄.0);
      eighty = omega (arith, length_push noted t, leb-false 80 (length noted) p₇.0);
      rows = λ e. subst (λ (us : List Term). (length us ≤ 8) × Unlikes us) (sym (under_push e noted t)) (row e (leb-false 8 (length (under t.formula noted)) p₆.0) p₅.0 (equal e t.formula) refl);
    }
  where
    row : (e : ℕ) → length (under t.formula noted) < 8 → has_cube (under t.formula noted) t ≡ false → (b : Bool) → equal e t.formula ≡ b
        → (length (under e noted ++ cond b (t ∷ []) []) ≤ 8) × Unlikes (under e noted ++ cond b (t ∷ []) [])
    row e f g true q =
        let r = equal_true e t.formula q in
        let f' = subst (λ (n : ℕ). length (under n noted) < 8) (sym r) f in
        let g' = subst (λ (n : ℕ). has_cube (under n noted) t ≡ false) (sym r) g in
        (omega (arith, length_push (under e noted) t), unlikes_push (under e noted) t (s.rows e).1 (unlike_all (under e noted) t g'))
    row e f g false q = subst (λ (us : List Term). (length us ≤ 8) × Unlikes us) (sym (append-nil (under e noted))) (s.rows e)

    positive : (n : ℕ) → (n ≡ 0 → ⊥) → 1 ≤ n
    positive zero f = absurd (f refl)
    positive (suc n) f = omega arith

pub sound_book : (noted offered : List Term) → Sound noted → Sound (book noted offered)
sound_book noted [] s = s
sound_book noted (t ∷ ts) s = sound_book (cond (eqb (refusal noted t) 0) (noted ++ t ∷ []) noted) ts (go (eqb (refusal noted t) 0) refl)
  where
    go : (b : Bool) → eqb (refusal noted t) 0 ≡ b → Sound (cond b (noted ++ t ∷ []) noted)
    go true e = sound_more noted t s (eqb-true _ _ e)
    go false e = s

pub sound_accepted : (offered : List Term) → Sound (accepted offered)
sound_accepted offered = sound_book [] offered (record { within = tt; some = tt; eight = tt; few = omega arith; held = tt; light = tt; eighty = omega arith; rows = λ e. (omega arith, tt) })

pub all_both : {X : Type 0} (P Q : X → Type 0) (xs : List X) → AllByRecursion P xs → AllByRecursion Q xs → AllByRecursion (λ x. P x × Q x) xs
all_both P Q [] h k = tt
all_both P Q (x ∷ xs) h k = ((h.0, k.0), all_both P Q xs h.1 k.1)

pub all_under : (P : Term → Type 0) (e : ℕ) (ts : List Term) → AllByRecursion P ts → AllByRecursion P (under e ts)
all_under P e [] h = tt
all_under P e (t ∷ ts) h = go (equal e t.formula) (all_under P e ts h.1)
  where
    go : (b : Bool) → AllByRecursion P (under e ts) → AllByRecursion P (cond b (t ∷ under e ts) (under e ts))
    go true r = (h.0, r)
    go false r = r

module _ {S : Type 0} (c : CommRing S) (noted : List Term) (s : Sound noted) (measures value : ℕ → S) (f : Fits c measures value (written noted)) where
  abbrev ns : List ℕ
  ns = numerals_of noted

  numeral_worth : (t : Term) → 1 ≤ magnitude t → Numbered ns t → cube_worth c value (cond (ltb (magnitude t) 2) unit (letter (8 + place ns (magnitude t)))) ≡ ones_sum c (magnitude t)
  numeral_worth t one held = go (ltb (magnitude t) 2) refl held
    where
      m : ℕ
      m = magnitude t

      go : (b : Bool) → ltb m 2 ≡ b → Numbered ns t → cube_worth c value (cond b unit (letter (8 + place ns m))) ≡ ones_sum c m
      go true e h =
          let q : 1 ≡ m = omega (arith, ltb-true m 2 e, one) in
          worth_unit c value ∙ sym (neutral_join (adding c) c.one) ∙ ap (ones_sum c) q
      go false e (inl h) = absurd (omega (arith, ltb-false m 2 e, h))
      go false e (inr h) =
          let q = place_holds ns m h in
          worth_letter c value (8 + place ns m) (omega (arith, q.0, s.few)) ∙ f.counted (place ns m) q.0 ∙ ap (ones_sum c) q.1

  powers_worth : (ps : List ℕ) → length ps ≡ 8 → cube_worth c value (λ l. get_or ps l 0) ≡ up_to (multiplying c) 8 (λ l. repeated (multiplying c) (measures l) (get_or ps l 0))
  powers_worth ps e =
      up_to_front (multiplying c) 8 24 _ (λ k l _. ap (repeated (multiplying c) (value k)) (get_or_past ps k 0 (omega arith)))
      ∙ up_to_same (multiplying c) 8 _ _ (λ l h. ap (λ (x : S). repeated (multiplying c) x (get_or ps l 0)) (f.set l h))

  row_value : (t : Term) → (1 ≤ magnitude t) × ((length t.powers ≡ 8) × Numbered ns t) → row_worth c value (written_row ns t) ≡ term_value c measures t
  row_value t h =
      ap (λ (x : S). cond (is_negative t) (c.opposite x) x)
      (worth_product c value _ (λ l. get_or t.powers l 0) ∙ ap₂ c.times (numeral_worth t h.0 h.1.1) (powers_worth t.powers h.1.0))

  pub written_worth_of : (e : ℕ) → worth c value ((written noted).expression e) ≡ formula_value c measures (under e noted)
  written_worth_of e =
      total_map (adding c) (row_worth c value) (written_row ns) (under e noted)
      ∙ total_all (adding c) _ _ (under e noted) (all_under _ e noted (All-weaker _ _ row_value noted (all_both _ _ noted s.some (all_both _ _ noted s.eight s.held))))

pub written_worth : {S : Type 0} (c : CommRing S) → WrittenWorth c
written_worth c offered measures value f e = written_worth_of c (accepted offered) (sound_accepted offered) measures value f e
