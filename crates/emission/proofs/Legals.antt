-- Emitted steps keep the rules of a sheet.
use Rattle.std.proofs.Common.{◌≡◌, ℕ, zero, suc, ◌+◌, ◌-◌, ◌<◌, ◌≤◌, true, false, List, [], ◌∷◌, ◌++◌, map, length, get_or, set, sym, refl, ap, ◌∙◌, subst, ⊎_elim, arith}
use Rattle.std.specs.List.{AllByRecursion}
use Rattle.std.proofs.ByRecursion.{All-append, All-from_get_or, All-get_or, All-map, All-set, All-weaker}
use Rattle.std.proofs.lemmas.List.{get_or-replicate, get_or-take, length-append, length-replicate, length-set}
use Rattle.std.proofs.lemmas.Bool.{and_from, cases_lt, lt-ltb}
use Rattle.sheet.specs.declared.operand.Operand.{Operand}
use Rattle.sheet.specs.declared.operand.Operand.TheVariants.{Zero, ResultOf}
use Rattle.sheet.specs.declared.operation.Operation.TheVariants.{Add, Sub, Mul}
use Rattle.sheet.specs.declared.step.Step.{Step}
use Rattle.sheet.proofs.Determined.{legal_later}
use Rattle.sheet.specs.Legal.{legal_operand, legal_step, right_fits}
use Rattle.algebra.specs.Cubes.{letters}
use Rattle.algebra.specs.Rows.{Row}
use Rattle.rewriting.specs.Closed.{Held}
use Rattle.rewriting.specs.Styles.{standing}
use Rattle.emission.specs.Promises.{EmitLegal, steps_of}
use Rattle.emission.specs.Steps.{Chain, Link, Signed, chain_end, chain_steps, emit_results, emitted, end_from, expression_result, expression_steps, letter_operand, letters_in, none_made, product_chain, products, resulting, row_chain, signed_link, steps_from, sum_behind, sum_chain, summands}
use Rattle.emission.proofs.Chains.{length_steps}
use Rattle.emission.proofs.Letters.{letter_measure, letter_numeral, letter_part, letters_all}

-- where `held` numerals are held
module _ (held : ℕ) where
  -- an operand that may stand behind n steps
  abbrev Exists : ℕ → Operand → Type 0
  Exists n o = legal_operand held n o ≡ true

  -- a link that may stand there
  abbrev Fit : ℕ → Link → Type 0
  Fit n k = Exists n k.1 × (right_fits k.0 k.1 ≡ true)

  -- steps that are legal from the number n on
  abbrev LegalFrom : ℕ → List Step → Type 0
  LegalFrom n [] = Unit {0}
  LegalFrom n (s ∷ ss) = (legal_step held n s ≡ true) × LegalFrom (n + 1) ss

  legal_append : (n : ℕ) (xs ys : List Step) → LegalFrom n xs → LegalFrom (n + length xs) ys → LegalFrom n (xs ++ ys)
  legal_append n [] ys h k = let e : n + 0 ≡ n = omega arith in subst (λ (m : ℕ). LegalFrom m ys) e k
  legal_append n (x ∷ xs) ys h k =
      let e : n + suc (length xs) ≡ n + 1 + length xs = omega arith in
      (h.0, legal_append (n + 1) xs ys h.1 (subst (λ (m : ℕ). LegalFrom m ys) e k))

  legal_each : (n : ℕ) (xs : List Step) → LegalFrom n xs → (k : ℕ) (d : Step) → k < length xs → legal_step held (n + k) (get_or xs k d) ≡ true
  legal_each n [] r k d h = absurd (omega arith)
  legal_each n (x ∷ xs) r zero d h = let e : n + 0 ≡ n = omega arith in ap (λ (m : ℕ). legal_step held m x) e ∙ r.0
  legal_each n (x ∷ xs) r (suc k) d h =
      let e : n + suc k ≡ n + 1 + k = omega arith in
      ap (λ (m : ℕ). legal_step held m (get_or xs k d)) e ∙ legal_each (n + 1) xs r.1 k d (omega arith)

  -- a chain whose start and links may stand behind n steps
  abbrev Sound : ℕ → Chain → Type 0
  Sound n k = Exists n k.start × AllByRecursion (Fit n) k.links

  links_legal : (n : ℕ) (x : Operand) (ks : List Link) → Exists n x → AllByRecursion (Fit n) ks → LegalFrom n (steps_from n x ks)
  links_legal n x [] f a = tt
  links_legal n x (k ∷ ks) f a = (
    and_from _ _ f (and_from _ _ a.0.0 a.0.1),
    links_legal (n + 1) (ResultOf n) ks (lt-ltb n (n + 1) (omega arith)) (All-weaker (Fit n) (Fit (n + 1)) (λ j b. (legal_later held n (n + 1) j.1 (omega arith) b.0, b.1)) ks a.1),
  )

  end_exists : (n : ℕ) (x : Operand) (ks : List Link) → Exists n x → Exists (n + length ks) (end_from n x ks)
  end_exists n x [] f = legal_later held n (n + 0) x (omega arith) f
  end_exists n x (k ∷ ks) f =
      let e : n + 1 + length ks ≡ n + suc (length ks) = omega arith in
      subst (λ (m : ℕ). Exists m (end_from (n + 1) (ResultOf n) ks)) e (end_exists (n + 1) (ResultOf n) ks (lt-ltb n (n + 1) (omega arith)))

  -- products and sums
  product_sound : (n : ℕ) (xs : List Operand) → AllByRecursion (Exists n) xs → Sound n (product_chain xs)
  product_sound n [] a = (refl, tt)
  product_sound n (x ∷ xs) a = (a.0, All-map (Fit n) (λ y. (Mul, y)) xs (All-weaker (Exists n) _ (λ y f. (f, refl)) xs a.1))

  signed_fit : (n : ℕ) (ts : List Signed) → AllByRecursion (λ (t : Signed). Exists n t.1) ts → AllByRecursion (Fit n) (map signed_link ts)
  signed_fit n [] a = tt
  signed_fit n ((true, x) ∷ ts) a = ((a.0, refl), signed_fit n ts a.1)
  signed_fit n ((false, x) ∷ ts) a = ((a.0, refl), signed_fit n ts a.1)

  sum_sound : (n : ℕ) (before : List Operand) (ts : List Signed) → AllByRecursion (Exists n) before → AllByRecursion (λ (t : Signed). Exists n t.1) ts → Sound n (sum_behind before ts)
  sum_sound n [] [] b a = (refl, tt)
  sum_sound n (x ∷ xs) [] b a =
      (b.0, All-append (Fit n) (map (λ y. (Add, y)) xs) _ (All-map (Fit n) (λ y. (Add, y)) xs (All-weaker (Exists n) _ (λ y f. (f, refl)) xs b.1)) ((refl, refl), tt))
  sum_sound n before ((true, x) ∷ ts) b a = sum_sound n (before ++ x ∷ []) ts (All-append (Exists n) before (x ∷ []) b (a.0, tt)) a.1
  sum_sound n before ((false, x) ∷ ts) b a =
      (a.0, All-append (Fit n) (map (λ y. (Sub, y)) before) _ (All-map (Fit n) (λ y. (Sub, y)) before (All-weaker (Exists n) _ (λ y f. (f, refl)) before b)) (signed_fit n ts a.1))

  -- every result is there for n steps
  abbrev Noted : ℕ → List Operand → Type 0
  Noted n results = (length results ≡ letters) × AllByRecursion (Exists n) results

  noted_later : (m n : ℕ) (results : List Operand) → m ≤ n → Noted m results → Noted n results
  noted_later m n results h a = (a.0, All-weaker (Exists m) (Exists n) (λ o. legal_later held m n o h) results a.1)

  letter_exists : (n : ℕ) (results : List Operand) → Noted n results → (l : ℕ) → l < letters → (8 ≤ l → l < 16 → l < 8 + held) → Exists n (letter_operand results l)
  letter_exists n results noted l small h =
      ⊎_elim (λ b. ap (legal_operand held n) (letter_measure results l b) ∙ lt-ltb l 8 b)
      (λ low. ⊎_elim
      (λ b. let m = h low b in ap (legal_operand held n) (letter_numeral results l low b) ∙ lt-ltb (l - 8) held (omega arith))
      (λ b. ap (legal_operand held n) (letter_part results l b) ∙ All-get_or (Exists n) results l Zero (omega (arith, noted.0)) noted.1)
      (cases_lt l 16))
      (cases_lt l 8)

  row_sound : (n : ℕ) (results : List Operand) (r : Row) → Noted n results → Held held r → Sound n (row_chain results r)
  row_sound n results r noted h =
      product_sound n (map (letter_operand results) (letters_in r.cube))
      (All-map (Exists n) (letter_operand results) (letters_in r.cube)
      (letters_all (λ l. Exists n (letter_operand results l)) r.cube letters (λ l b p. letter_exists n results noted l b (λ low high. within l low high p))))
    where
      within : (l : ℕ) → 8 ≤ l → l < 16 → 1 ≤ r.cube l → l < 8 + held
      within l low high p = ⊎_elim (λ b. b) (λ b. absurd (omega (arith, h l b high))) (cases_lt l (8 + held))

  products_legal : (n : ℕ) (results : List Operand) (rows : List Row) → Noted n results → AllByRecursion (Held held) rows → LegalFrom n (products results n rows)
  products_legal n results [] noted h = tt
  products_legal n results (r ∷ rows) noted h =
      let k = row_chain results r in
      let m = n + length k.links in
      let s = row_sound n results r noted h.0 in
      legal_append n (chain_steps n k) (products results m rows) (links_legal n k.start k.links s.0 s.1)
      (subst (λ (i : ℕ). LegalFrom (n + i) (products results m rows)) (sym (length_steps n k.start k.links))
      (products_legal m results rows (noted_later n m results (omega arith) noted) h.1))

  summands_exist : (n : ℕ) (results : List Operand) (rows : List Row) → Noted n results → AllByRecursion (Held held) rows → AllByRecursion (λ (t : Signed). Exists (n + length (products results n rows)) t.1) (summands results n rows)
  summands_exist n results [] noted h = tt
  summands_exist n results (r ∷ rows) noted h =
      let k = row_chain results r in
      let m = n + length k.links in
      let rest = products results m rows in
      let s = row_sound n results r noted h.0 in
      let e : m + length rest ≡ n + length (chain_steps n k ++ rest) = omega (arith, length-append (chain_steps n k) rest, length_steps n k.start k.links) in (
        legal_later held m (n + length (chain_steps n k ++ rest)) (chain_end n k) (omega arith) (end_exists n k.start k.links s.0),
        subst (λ (i : ℕ). AllByRecursion (λ (t : Signed). Exists i t.1) (summands results m rows)) e (summands_exist m results rows (noted_later n m results (omega arith) noted) h.1),
      )

  expression_legal : (n : ℕ) (results : List Operand) (rows : List Row) → Noted n results → AllByRecursion (Held held) rows
      → LegalFrom n (expression_steps results n rows) × Exists (n + length (expression_steps results n rows)) (expression_result results n rows)
  expression_legal n results rows noted h =
      let ps = products results n rows in
      let m = n + length ps in
      let k = sum_chain (summands results n rows) in
      let s = sum_sound m [] (summands results n rows) tt (summands_exist n results rows noted h) in
      let e : m + length k.links ≡ n + length (ps ++ chain_steps m k) = omega (arith, length-append ps (chain_steps m k), length_steps m k.start k.links) in (
        legal_append n ps (chain_steps m k) (products_legal n results rows noted h) (links_legal m k.start k.links s.0 s.1),
        subst (λ (i : ℕ). Exists i (chain_end m k)) e (end_exists m k.start k.links s.0),
      )

  emitted_legal : (rows : ℕ → List Row) (n : ℕ) (results : List Operand) (es : List ℕ) → Noted n results → AllByRecursion (λ (e : ℕ). AllByRecursion (Held held) (rows e)) es
      → LegalFrom n (emitted rows results n es) × Noted (n + length (emitted rows results n es)) (resulting rows results n es)
  emitted_legal rows n results [] noted h = (tt, noted_later n (n + 0) results (omega arith) noted)
  emitted_legal rows n results (x ∷ es) noted h =
      let xs = expression_steps results n (rows x) in
      let v = expression_result results n (rows x) in
      let here = expression_legal n results (rows x) noted h.0 in
      let m = n + length xs in
      let rest = emitted rows (set results x v) m es in
      let now = noted_later n m results (omega arith) noted in
      let there = emitted_legal rows m (set results x v) es (length-set results x v ∙ now.0, All-set (Exists m) results x v here.1 now.1) h.1 in
      let e : m + length rest ≡ n + length (xs ++ rest) = omega (arith, length-append xs rest) in
      (legal_append n xs rest here.0 there.0, subst (λ (i : ℕ). Noted i (resulting rows (set results x v) m es)) e there.1)

  none_noted : Noted 0 none_made
  none_noted = (
    length-replicate letters Zero,
    All-from_get_or (Exists 0) none_made Zero (λ i h. ap (legal_operand held 0) (get_or-replicate letters i Zero Zero (omega (arith, length-replicate letters Zero)))),
  )

pub emit_legal : EmitLegal
emit_legal s order closed ordered =
    let held = length s.numerals in
    let results = emit_results s.expression order in
    let r =
    emitted_legal held s.expression 0 none_made order (none_noted held)
    (All-weaker (λ (e : ℕ). e < standing s) (λ (e : ℕ). AllByRecursion (Held held) (s.expression e)) (λ e l. (closed.tidy e l).held) order ordered.stand) in (
      (λ k d h. let e : k ≡ 0 + k = omega arith in ap (λ (i : ℕ). legal_step held i (get_or (steps_of s order) k d)) e ∙ legal_each held 0 (steps_of s order) r.0 k d h),
      (λ k d h.
          let e : length (steps_of s order) ≡ 0 + length (steps_of s order) = omega arith in
          ap (legal_operand held (length (steps_of s order))) (get_or-take 16 results k d h)
          ∙ ap (λ (i : ℕ). legal_operand held i (get_or results k d)) e
          ∙ All-get_or (Exists held (0 + length (steps_of s order))) results k d (omega (arith, r.1.0)) r.1.1),
    )
