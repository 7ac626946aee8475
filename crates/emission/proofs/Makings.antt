-- Expressions in a making order: what each result is worth in the end.
use Rattle.std.proofs.Common.{◌≡◌, ℕ, ◌+◌, ◌-◌, ◌<◌, true, false, cond, ◌⊎◌, List, [], ◌∷◌, length, get_or, set, sym, refl, ap, ◌∙◌, subst, inl, inr, ⊎_elim, arith}
use Rattle.std.specs.List.{AllByRecursion}
use Rattle.std.proofs.ByRecursion.{All-weaker}
use Rattle.std.proofs.lemmas.List.{get_or-set_other, get_or-set_same, get_or-take, length-replicate, length-set}
use Rattle.std.proofs.lemmas.Bool.{both_ways, cases_lt, or_cases, or_parts}
use Rattle.ring.specs.Ring.{CommRing, ones_sum}
use Rattle.sheet.specs.declared.operand.Operand.{Operand}
use Rattle.sheet.specs.declared.operand.Operand.TheVariants.{Zero}
use Rattle.sheet.specs.declared.step.Step.{Step}
use Rattle.algebra.specs.Cubes.{letters}
use Rattle.algebra.specs.Rows.{Row}
use Rattle.algebra.specs.Sums.{adding, multiplying, repeated}
use Rattle.algebra.specs.Worth.{row_worth, worth}
use Rattle.algebra.proofs.Sums.{total_all, up_to_same}
use Rattle.rewriting.specs.Factor.{Apart, has}
use Rattle.rewriting.specs.Order.{Backwards, MadeOf}
use Rattle.rewriting.specs.Styles.{equal, standing}
use Rattle.rewriting.proofs.Parts.{equal_refl, equal_true}
use Rattle.emission.specs.Promises.{EmitValues, steps_of}
use Rattle.emission.specs.Steps.{emit_results, emitted, expression_result, expression_steps, none_made, resulting}
use Rattle.emission.proofs.Chains.{Kept, expression_worth, kept_all, kept_append, letter_value, value}
use Rattle.emission.proofs.Letters.{letter_measure, letter_numeral, letter_part, letter_same}

-- what stands before stands no more
abbrev Past : List ℕ → List ℕ → Type 0
Past seen es = (l : ℕ) → has seen l ≡ true → has es l ≡ false

past_more : (seen : List ℕ) (e : ℕ) (es : List ℕ) → has es e ≡ false → Past seen (e ∷ es) → Past (e ∷ seen) es
past_more seen e es a p l h = ⊎_elim (λ q. ap (has es) (equal_true l e q) ∙ a) (λ q. (or_parts (equal l e) (has es l) (p l q)).1) (or_cases (equal l e) (has seen l) h)

-- later expressions leave the results of the others
resulting_other : (rows : ℕ → List Row) (results : List Operand) (n : ℕ) (es : List ℕ) (l : ℕ) → has es l ≡ false → get_or (resulting rows results n es) l Zero ≡ get_or results l Zero
resulting_other rows results n [] l h = refl
resulting_other rows results n (e ∷ es) l h =
    let q = or_parts (equal l e) (has es l) h in
    let v = expression_result results n (rows e) in
    resulting_other rows (set results e v) (n + length (expression_steps results n (rows e))) es l q.1
    ∙ get_or-set_other results e l v Zero (λ t. both_ways (equal l e) q.0 (ap (λ (x : ℕ). equal x e) t ∙ equal_refl e))

pub resulting_length : (rows : ℕ → List Row) (results : List Operand) (n : ℕ) (es : List ℕ) → length (resulting rows results n es) ≡ length results
resulting_length rows results n [] = refl
resulting_length rows results n (e ∷ es) =
    let v = expression_result results n (rows e) in
    resulting_length rows (set results e v) (n + length (expression_steps results n (rows e))) es ∙ length-set results e v

pub results_length : (rows : ℕ → List Row) (order : List ℕ) → length (emit_results rows order) ≡ letters
results_length rows order = resulting_length rows none_made 0 order ∙ length-replicate letters Zero

module _ {S : Type 0} (c : CommRing S) where
  -- the worth depends on the letters alone that occur
  worth_agree : (a b : ℕ → S) (rows : List Row) → AllByRecursion (λ (r : Row). (l : ℕ) → l < letters → (r.cube l ≡ 0) ⊎ (a l ≡ b l)) rows → worth c a rows ≡ worth c b rows
  worth_agree a b rows h = total_all (adding c) (row_worth c a) (row_worth c b) rows (All-weaker _ _ one rows h)
    where
      one : (r : Row) → ((l : ℕ) → l < letters → (r.cube l ≡ 0) ⊎ (a l ≡ b l)) → row_worth c a r ≡ row_worth c b r
      one r k =
          ap (λ (v : S). cond r.negative (c.opposite v) v)
          (up_to_same (multiplying c) letters _ _
          (λ l m. ⊎_elim (λ z. ap (repeated (multiplying c) (a l)) z ∙ sym (ap (repeated (multiplying c) (b l)) z)) (λ z. ap (λ (v : S). repeated (multiplying c) v (r.cube l)) z) (k l m)))

  module _ (numerals : List ℕ) (measures cells : List S) (rows : ℕ → List Row) where
    -- an expression's result is worth its rows, where the letters are worth the results `after`
    abbrev WorthIn : List Operand → ℕ → Type 0
    WorthIn after e = value c numerals measures cells (get_or after e Zero) ≡ worth c (letter_value c numerals measures cells after) (rows e)

    emitted_worth : (results : List Operand) (n : ℕ) (seen es : List ℕ) → length results ≡ letters → AllByRecursion (λ (e : ℕ). e < letters) es → Apart es → Past seen es → Backwards rows seen es
        → Kept c numerals measures cells n (emitted rows results n es) → (e : ℕ) → has es e ≡ true → WorthIn (resulting rows results n es) e
    emitted_worth results n seen [] len low apart past back kept e h = absurd (both_ways false refl h)
    emitted_worth results n seen (x ∷ es) len low apart past back kept e h =
        ⊎_elim (λ q. subst (WorthIn after) (sym (equal_true e x q)) here)
        (λ q. emitted_worth (set results x v) (n + length xs) (x ∷ seen) es (length-set results x v ∙ len) low.1 apart.1 (past_more seen x es apart.0 past) back.1 parts.1 e q)
        (or_cases (equal e x) (has es e) h)
      where
        xs : List Step
        xs = expression_steps results n (rows x)

        v : Operand
        v = expression_result results n (rows x)

        after : List Operand
        after = resulting rows (set results x v) (n + length xs) es

        parts : Kept c numerals measures cells n xs × Kept c numerals measures cells (n + length xs) (emitted rows (set results x v) (n + length xs) es)
        parts = kept_append c numerals measures cells n xs (emitted rows (set results x v) (n + length xs) es) kept

        agree : (r : Row) → MadeOf seen r → (l : ℕ) → l < letters → (r.cube l ≡ 0) ⊎ (letter_value c numerals measures cells results l ≡ letter_value c numerals measures cells after l)
        agree r m l k =
            ⊎_elim (λ b. inr (ap (value c numerals measures cells) (letter_same results after l (λ a. absurd (omega arith)))))
            (λ b. ⊎_elim (λ z. inl z) (λ z. inr (ap (value c numerals measures cells) (letter_same results after l (λ _. sym (resulting_other rows results n (x ∷ es) l (past l z)))))) (m l b k))
            (cases_lt l 16)

        here : WorthIn after x
        here =
            let small : x < length results = omega (arith, low.0) in
            ap (value c numerals measures cells) (resulting_other rows (set results x v) (n + length xs) es x apart.0 ∙ get_or-set_same results x v Zero small)
            ∙ expression_worth c numerals measures cells results n (rows x) parts.0
            ∙ worth_agree (letter_value c numerals measures cells results) (letter_value c numerals measures cells after) (rows x) (All-weaker _ _ agree (rows x) back.0)

  pub emit_values : EmitValues c
  emit_values s order closed ordered few measures cells law = record {
    value = letter_value c s.numerals measures cells results;
    fits = record {
      set = λ l h. ap at (letter_measure results l h);
      counted = λ k h.
          let e : 8 + k - 8 ≡ k = omega arith in
          ap at (letter_numeral results (8 + k) (omega arith) (omega arith)) ∙ ap (λ (i : ℕ). ones_sum c (get_or s.numerals i 0)) e;
      made = λ k h. ap at (letter_part results (16 + k) (omega arith)) ∙ each (16 + k) (omega arith);
    };
    formulas = λ f h. ap at (get_or-take 16 results f Zero h) ∙ each f (omega arith);
  }
    where
      results : List Operand
      results = emit_results s.expression order

      at : Operand → S
      at o = value c s.numerals measures cells o

      each : (e : ℕ) → e < standing s → WorthIn s.numerals measures cells s.expression results e
      each e h =
          emitted_worth s.numerals measures cells s.expression none_made 0 [] order (length-replicate letters Zero)
          (All-weaker (λ (x : ℕ). x < standing s) (λ (x : ℕ). x < letters) (λ x l. omega (arith, closed.few_parts)) order ordered.stand)
          ordered.once (λ l z. absurd (both_ways false refl z)) ordered.backwards
          (kept_all c s.numerals measures cells (steps_of s order) law) e (ordered.there e h)
