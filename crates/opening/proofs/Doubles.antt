-- A formula's rows have the cube of a term just where one of its noted terms has the term's powers and magnitude.
use Rattle.std.proofs.Common.{◌≡◌, ℕ, zero, suc, ◌+◌, ◌<◌, ◌≤◌, Bool, true, false, cond, ◌&&◌, eqb, ltb, List, [], ◌∷◌, map, length, get_or, sym, refl, ◌∙◌, ap₂, inl, inr, ⊎_elim, arith}
use Rattle.std.specs.List.{AllZip, AllByRecursion}
use Rattle.std.proofs.lemmas.Bool.{and_parts, cases_Bool, cases_lt, eqb-true, le-ltb, or_cases, or_left, or_right}
use Rattle.algebra.specs.Cubes.{Powers, Same, letter, unit}
use Rattle.algebra.specs.Rows.{Alike}
use Rattle.algebra.proofs.Degrees.{letter_own}
use Rattle.cubes.specs.Rows.{Holds, as_rows, powers_at}
use Rattle.cubes.specs.declared.row.Row.{Row}
use Rattle.rewriting.specs.Book.{Term, has_cube, holds, magnitude, numerals_of, place, same_powers, written_row}
use Rattle.rewriting.proofs.Books.{Sound}
use Rattle.rewriting.proofs.Firsts.{Fine, other}
use Rattle.rewriting.proofs.Firsts.{below as fine_below, held as fine_held}
use Rattle.opening.specs.Checks.{Admissible}
use Rattle.opening.proofs.Numerals.{place_free}

-- the same powers and the same magnitude
abbrev alike_test : Term → Term → Bool
alike_test u t = same_powers u.powers t.powers && eqb (magnitude u) (magnitude t)

powers_equal : (ps qs : List ℕ) → same_powers ps qs ≡ true → ps ≡ qs
powers_equal [] [] h = refl
powers_equal [] (q ∷ qs) h = cc
powers_equal (p ∷ ps) [] h = cc
powers_equal (p ∷ ps) (q ∷ qs) h = let r = and_parts (eqb p q) (same_powers ps qs) h in ap₂ (λ (x : ℕ) (xs : List ℕ). x ∷ xs) (eqb-true p q r.0) (powers_equal ps qs r.1)

same_row : (ns : List ℕ) (u t : Term) → alike_test u t ≡ true → (l : ℕ) → (written_row ns u).cube l ≡ (written_row ns t).cube l
same_row ns u t h l =
    let r = and_parts (same_powers u.powers t.powers) (eqb (magnitude u) (magnitude t)) h in
    ap₂ (λ (m : ℕ) (ps : List ℕ). cond (ltb m 2) unit (letter (8 + place ns m)) l + get_or ps l 0) (eqb-true (magnitude u) (magnitude t) r.1) (powers_equal u.powers t.powers r.0)

-- the rows xs are the terms us written out, and a is the cube of t
module _ (ns : List ℕ) (t : Term) (a : Powers) (is : Same a (written_row ns t).cube) where
  pub has_holds : (us : List Term) (xs : List Row) → AllZip Alike (map (written_row ns) us) (as_rows xs) → has_cube us t ≡ true → Holds xs a
  has_holds [] [] e h = absurd (cc)
  has_holds [] (x ∷ xs) e h = absurd e
  has_holds (u ∷ us) [] e h = absurd e
  has_holds (u ∷ us) (x ∷ xs) e h =
      ⊎_elim
      (λ q. (0, omega arith, λ l z. sym (e.0.cubes l z) ∙ same_row ns u t q l ∙ sym (is l z)))
      (λ q. (let r = has_holds us xs e.1 q in (suc r.0, omega (arith, r.1), r.2)))
      (or_cases (alike_test u t) (has_cube us t) h)

  pub holds_has : (P : Term → Type 0) → ((u : Term) → P u → Same (written_row ns u).cube (written_row ns t).cube → alike_test u t ≡ true)
      → (us : List Term) (xs : List Row) → AllByRecursion P us → AllZip Alike (map (written_row ns) us) (as_rows xs)
      → (k : ℕ) → k < length xs → Same (powers_at xs k) a → has_cube us t ≡ true
  holds_has P f [] [] p e k h s = absurd (omega arith)
  holds_has P f [] (x ∷ xs) p e k h s = absurd e
  holds_has P f (u ∷ us) [] p e k h s = absurd e
  holds_has P f (u ∷ us) (x ∷ xs) p e zero h s = or_left _ (has_cube us t) (f u p.0 (λ l z. e.0.cubes l z ∙ s l z ∙ is l z))
  holds_has P f (u ∷ us) (x ∷ xs) p e (suc k) h s = or_right (alike_test u t) _ (holds_has P f us xs p.1 e.1 k (omega arith) s)

-- a noted term and an admissible one with the same cube, its numeral held or not
module _ (noted : List Term) (s : Sound noted) (t : Term) (a : Admissible t) where
  abbrev ns : List ℕ
  ns = numerals_of noted

  -- a new numeral's letter is in no row
  new_letter : 2 ≤ magnitude t → holds ns (magnitude t) ≡ false → (u : Term) → Fine noted s u → Same (written_row ns u).cube (written_row ns t).cube → ⊥
  new_letter two free u f same =
      let n = 8 + length ns in
      let few = s.few in
      let own : cond (ltb (magnitude t) 2) unit (letter (8 + place ns (magnitude t))) n ≡ 1
      = ap₂ (λ (b : Bool) (p : ℕ). cond b unit (letter (8 + p)) n) (le-ltb (magnitude t) 2 two) (place_free ns (magnitude t) free) ∙ letter_own n in
      let none : (written_row ns u).cube n ≡ 0
      = ⊎_elim (λ k. fine_held noted s u f n (omega arith) k) (λ k. fine_below noted s u f n k (omega arith)) (cases_lt n 16) in
      omega (arith, none, own, same n (omega arith))

  pub same_cube : (u : Term) → Fine noted s u → Same (written_row ns u).cube (written_row ns t).cube → alike_test u t ≡ true
  same_cube u f same = ⊎_elim (λ q. q) (λ q. absurd (unlike q)) (cases_Bool (alike_test u t))
    where
      unlike : alike_test u t ≡ false → ⊥
      unlike q =
          ⊎_elim (λ k. other noted s u t f (a.some, (a.eight, (inl k, a.light))) q same)
          (λ k. ⊎_elim (λ h. other noted s u t f (a.some, (a.eight, (inr h, a.light))) q same) (λ h. new_letter k h u f same) (cases_Bool (holds ns (magnitude t))))
          (cases_lt (magnitude t) 2)
