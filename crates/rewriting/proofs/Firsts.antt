-- The style that the accepted terms make is closed, and not too long.
use Rattle.std.proofs.Common.{◌≡◌, ℕ, zero, suc, ◌+◌, ◌*◌, ◌<◌, ◌≤◌, Bool, true, false, cond, ◌&&◌, eqb, ltb, ◌⊎◌, List, [], ◌∷◌, map, length, get_or, sym, refl, ap, ◌∙◌, subst, ap₂, inl, inr, ⊎_elim, arith}
use Rattle.std.specs.List.{AllByRecursion}
use Rattle.std.proofs.ByRecursion.{All-weaker, All-map}
use Rattle.std.proofs.lemmas.List.{get_or_past, length-map}
use Rattle.std.proofs.lemmas.Bool.{cases_eq, ltb-true, ltb-false, eq-eqb, and_from, both_ways}
use Rattle.algebra.specs.Counts.{additions, all_negative, less_one, multiplications, negations}
use Rattle.algebra.specs.Cubes.{Powers, letter, letters, unit}
use Rattle.algebra.specs.Rows.{Distinct, Row, degree}
use Rattle.algebra.specs.Sums.{counting, total, up_to}
use Rattle.algebra.proofs.Degrees.{degree_letter, degree_product, degree_same, degree_unit, letter_other, letter_own}
use Rattle.algebra.proofs.Sums.{up_to_first, up_to_join, up_to_le, up_to_neutral, up_to_same, up_to_through}
use Rattle.rewriting.specs.Book.{Term, accepted, magnitude, numerals_of, place, same_powers, under, written, written_row}
use Rattle.rewriting.specs.Closed.{Below, Held, Low, Tidy}
use Rattle.rewriting.specs.Promises.{TwoThousand, WrittenClosed}
use Rattle.rewriting.specs.Styles.{equal, over}
use Rattle.rewriting.proofs.Books.{Numbered, Sound, Unlike, Unlikes, all_both, all_under, place_holds, sound_accepted}
use Rattle.rewriting.proofs.Chains.{presses_lower}
use Rattle.rewriting.proofs.Places.{Other}
use Rattle.rewriting.proofs.Savings.{less_one_is, up_to_at}

-- the powers' sum is the degree
degree_powers : (ps : List ℕ) (n : ℕ) → length ps ≤ n → up_to counting n (λ l. get_or ps l 0) ≡ total counting (λ p. p) ps
degree_powers [] n h = up_to_neutral counting n _ (λ k l. refl)
degree_powers (p ∷ ps) zero h = absurd (omega arith)
degree_powers (p ∷ ps) (suc n) h = up_to_first counting n (λ l. get_or (p ∷ ps) l 0) ∙ ap (λ (x : ℕ). p + x) (degree_powers ps n (omega arith))

pub powers_same : (ps qs : List ℕ) → length ps ≡ length qs → ((l : ℕ) → l < length ps → get_or ps l 0 ≡ get_or qs l 0) → same_powers ps qs ≡ true
powers_same [] [] e h = refl
powers_same [] (q ∷ qs) e h = absurd (omega arith)
powers_same (p ∷ ps) [] e h = absurd (omega arith)
powers_same (p ∷ ps) (q ∷ qs) e h = and_from _ _ (eq-eqb p q (h 0 (omega arith))) (powers_same ps qs (omega arith) (λ l k. h (suc l) (omega arith)))

module _ (noted : List Term) (s : Sound noted) where
  abbrev pub ns : List ℕ
  ns = numerals_of noted

  abbrev pub Fine : Term → Type 0
  Fine t = (1 ≤ magnitude t) × ((length t.powers ≡ 8) × (Numbered ns t × (total counting (λ p. p) t.powers ≤ 24)))

  abbrev numeral : ℕ → Powers
  numeral m = cond (ltb m 2) unit (letter (8 + place ns m))

  -- a term's numeral letter: none at magnitude one, else that of its place, which is below 16
  numeral_way : (t : Term) → Fine t
      → ((magnitude t ≡ 1) × ((l : ℕ) → numeral (magnitude t) l ≡ 0))
      ⊎ (((8 + place ns (magnitude t) < 16) × (get_or ns (place ns (magnitude t)) 0 ≡ magnitude t)) × ((l : ℕ) → numeral (magnitude t) l ≡ letter (8 + place ns (magnitude t)) l))
  numeral_way t f = go (ltb (magnitude t) 2) refl f.1.1.0
    where
      m : ℕ
      m = magnitude t

      go : (b : Bool) → ltb m 2 ≡ b → Numbered ns t
          → ((m ≡ 1) × ((l : ℕ) → numeral m l ≡ 0)) ⊎ (((8 + place ns m < 16) × (get_or ns (place ns m) 0 ≡ m)) × ((l : ℕ) → numeral m l ≡ letter (8 + place ns m) l))
      go true e h = inl (omega (arith, ltb-true m 2 e, f.0), λ l. ap (λ (b : Bool). cond b unit (letter (8 + place ns m)) l) e)
      go false e (inl h) = absurd (omega (arith, ltb-false m 2 e, h))
      go false e (inr h) =
          let q = place_holds ns m h in
          inr ((omega (arith, q.0, s.few), q.1), λ l. ap (λ (b : Bool). cond b unit (letter (8 + place ns m)) l) e)

  no_power : (t : Term) → Fine t → (l : ℕ) → 8 ≤ l → get_or t.powers l 0 ≡ 0
  no_power t f l h = get_or_past t.powers l 0 (omega (arith, f.1.0))

  pub below : (t : Term) → Fine t → Below 16 (written_row ns t)
  below t f l h k =
      ⊎_elim (λ w. omega (arith, w.1 l, no_power t f l (omega arith)))
      (λ w. omega (arith, w.1 l, letter_other (8 + place ns (magnitude t)) l (λ q. omega (arith, w.0.0, q)), no_power t f l (omega arith)))
      (numeral_way t f)

  pub held : (t : Term) → Fine t → Held (length ns) (written_row ns t)
  held t f l h k = go (ltb (magnitude t) 2) refl f.1.1.0
    where
      m : ℕ
      m = magnitude t

      go : (b : Bool) → ltb m 2 ≡ b → Numbered ns t → cond b unit (letter (8 + place ns m)) l + get_or t.powers l 0 ≡ 0
      go true e q = omega (arith, no_power t f l (omega arith))
      go false e (inl q) = absurd (omega (arith, ltb-false m 2 e, q))
      go false e (inr q) = let w = place_holds ns m q in omega (arith, letter_other (8 + place ns m) l (λ r. omega (arith, w.0, r, h)), no_power t f l (omega arith))

  low : (t : Term) → Fine t → Low (written_row ns t)
  low t f =
      let e : degree (λ l. get_or t.powers l 0) ≡ total counting (λ p. p) t.powers = degree_powers t.powers letters (omega (arith, f.1.0)) in
      let d : degree (numeral (magnitude t)) ≤ 1 = ⊎_elim (λ w. omega (arith, degree_same (numeral (magnitude t)) unit (λ l _. w.1 l) ∙ degree_unit))
      (λ w. omega (arith, degree_same (numeral (magnitude t)) (letter (8 + place ns (magnitude t))) (λ l _. w.1 l) ∙ degree_letter (8 + place ns (magnitude t)) (omega (arith, w.0.0)))) (numeral_way t f) in
      omega (arith, degree_product (numeral (magnitude t)) (λ l. get_or t.powers l 0), f.1.1.1)

  -- rows of unlike terms have different cubes
  pub other : (u t : Term) → Fine u → Fine t → Unlike u t → Other (written_row ns u) (written_row ns t)
  other u t f g h e =
      both_ways (same_powers u.powers t.powers && eqb (magnitude u) (magnitude t)) h
      (and_from _ _ (powers_same u.powers t.powers (f.1.0 ∙ sym g.1.0) (λ l k. let k' : l < 8 = omega (arith, f.1.0) in omega (arith, e l (omega arith), small u f l k', small t g l k')))
      (eq-eqb (magnitude u) (magnitude t) (size (numeral_way u f) (numeral_way t g))))
    where
      small : (v : Term) → Fine v → (l : ℕ) → l < 8 → numeral (magnitude v) l ≡ 0
      small v a l k = ⊎_elim (λ w. w.1 l) (λ w. w.1 l ∙ letter_other (8 + place ns (magnitude v)) l (λ q. omega arith)) (numeral_way v a)

      Way : Term → Type 0
      Way v = ((magnitude v ≡ 1) × ((l : ℕ) → numeral (magnitude v) l ≡ 0))
          ⊎ (((8 + place ns (magnitude v) < 16) × (get_or ns (place ns (magnitude v)) 0 ≡ magnitude v)) × ((l : ℕ) → numeral (magnitude v) l ≡ letter (8 + place ns (magnitude v)) l))

      at : (l : ℕ) → 8 ≤ l → l < 16 → numeral (magnitude u) l ≡ numeral (magnitude t) l
      at l k m = omega (arith, e l (omega arith), no_power u f l k, no_power t g l k)

      size : Way u → Way t → magnitude u ≡ magnitude t
      size (inl v) (inl w) = v.0 ∙ sym w.0
      size (inl v) (inr w) = let l = 8 + place ns (magnitude t) in absurd (omega (arith, at l (omega arith) w.0.0, v.1 l, w.1 l, letter_own l))
      size (inr v) (inl w) = let l = 8 + place ns (magnitude u) in absurd (omega (arith, at l (omega arith) v.0.0, v.1 l, w.1 l, letter_own l))
      size (inr v) (inr w) =
          let l = 8 + place ns (magnitude u) in
          ⊎_elim (λ q. let r : place ns (magnitude u) ≡ place ns (magnitude t) = omega arith in sym v.0.1 ∙ ap (λ (i : ℕ). get_or ns i 0) r ∙ w.0.1)
          (λ q. absurd (omega (arith, at l (omega arith) v.0.0, v.1 l, w.1 l, letter_own l, letter_other (8 + place ns (magnitude t)) l q)))
          (cases_eq l (8 + place ns (magnitude t)))

  others : (us : List Term) → AllByRecursion Fine us → Unlikes us → Distinct (map (written_row ns) us)
  others [] f d = tt
  others (u ∷ us) f d = (go us f.1 d.0, others us f.1 d.1)
    where
      go : (ts : List Term) → AllByRecursion Fine ts → AllByRecursion (Unlike u) ts → AllByRecursion (Other (written_row ns u)) (map (written_row ns) ts)
      go [] a b = tt
      go (t ∷ ts) a b = (other u t f.0 a.0 b.0, go ts a.1 b.1)

  pub all_fine : AllByRecursion Fine noted
  all_fine = all_both _ _ noted s.some (all_both _ _ noted s.eight (all_both _ _ noted s.held s.light))

  pub first_tidy : (e : ℕ) → Tidy (length ns) 16 ((written noted).expression e)
  first_tidy e =
      let f = all_under Fine e noted all_fine in
      record {
        few = subst (λ (n : ℕ). n ≤ 8) (sym (length-map (under e noted) (written_row ns))) (s.rows e).0;
        apart = others (under e noted) f (s.rows e).1;
        known = All-map (Below 16) (written_row ns) (under e noted) (All-weaker _ _ below (under e noted) f);
        low = All-map Low (written_row ns) (under e noted) (All-weaker _ _ low (under e noted) f);
        held = All-map (Held (length ns)) (written_row ns) (under e noted) (All-weaker _ _ held (under e noted) f);
      }

pub written_closed : WrittenClosed
written_closed offered = record {
  few_parts = omega arith;
  tidy = λ e l. first_tidy (accepted offered) (sound_accepted offered) e;
  positive_parts = λ k l. absurd (omega arith);
}

-- counts of one expression
few_products : (e : List Row) → AllByRecursion Low e → multiplications e ≤ length e * 24
few_products [] a = omega arith
few_products (r ∷ rs) a = add (degree r.cube) _ _ a.0 (few_products rs a.1)
  where
    add : (d m n : ℕ) → d ≤ 25 → m ≤ n * 24 → less_one d + m ≤ suc n * 24
    add d m n h k = omega (arith, less_one_is d)

few_others : (e : List Row) → additions e + negations e ≤ length e
few_others [] = omega arith
few_others (r ∷ rs) = go (all_negative (r ∷ rs))
  where
    go : (b : Bool) → length rs + cond b 1 0 ≤ suc (length rs)
    go true = omega arith
    go false = omega arith

up_to_under : (n : ℕ) (ts : List Term) → AllByRecursion (λ (t : Term). t.formula < n) ts → up_to counting n (λ e. length (under e ts)) ≡ length ts
up_to_under n [] a = up_to_neutral counting n _ (λ k l. refl)
up_to_under n (t ∷ ts) a =
    up_to_same counting n _ (λ e. cond (equal e t.formula) 1 0 + length (under e ts)) (λ e _. go (equal e t.formula) (under e ts))
    ∙ up_to_join counting n (λ e. cond (equal e t.formula) 1 0) (λ e. length (under e ts))
    ∙ ap₂ ◌+◌ (up_to_at 1 t.formula n a.0) (up_to_under n ts a.1) ∙ omega arith
  where
    go : (b : Bool) (us : List Term) → length (cond b (t ∷ us) us) ≡ cond b 1 0 + length us
    go true us = omega arith
    go false us = omega arith

pub two_thousand : TwoThousand
two_thousand offered s' m a p =
    let noted = accepted offered in
    let ok = sound_accepted offered in
    let lower = presses_lower (written noted) s' m a p in
    let size : (e : ℕ) → length ((written noted).expression e) ≡ length (under e noted) = λ e. length-map (under e noted) (written_row (numerals_of noted)) in
    let all : up_to counting 16 (λ e. length (under e noted)) ≡ length noted = up_to_under 16 noted (All-weaker _ _ (λ t h. omega arith) noted ok.within) in
    let row_products : over multiplications (written noted) ≤ up_to counting 16 (λ e. length (under e noted) * 24)
    = up_to_le 16 _ _ (λ e l. subst (λ (n : ℕ). multiplications ((written noted).expression e) ≤ n * 24) (size e) (few_products ((written noted).expression e) (first_tidy noted ok e).low)) in
    let others : up_to counting 16 (λ e. additions ((written noted).expression e) + negations ((written noted).expression e)) ≤ up_to counting 16 (λ e. length (under e noted))
    = up_to_le 16 _ _ (λ e l. subst (λ (n : ℕ). additions ((written noted).expression e) + negations ((written noted).expression e) ≤ n) (size e) (few_others ((written noted).expression e))) in
    omega (
      arith,
      lower.fewer_multiplications,
      lower.fewer_additions,
      lower.as_many_negations,
      row_products,
      others,
      all,
      ok.eighty,
      up_to_through counting counting (λ (x : ℕ). x * 24) (omega arith) (λ x y. omega arith) 16 (λ e. length (under e noted)),
      up_to_join counting 16 (λ e. additions ((written noted).expression e)) (λ e. negations ((written noted).expression e)),
    )
