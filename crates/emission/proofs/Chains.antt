-- What chains of steps are worth, where the cells keep the law of the steps.
use Rattle.std.proofs.Common.{◌≡◌, ℕ, suc, ◌+◌, ◌<◌, true, false, cond, List, [], ◌∷◌, ◌++◌, map, length, get_or, sym, refl, ap, ◌∙◌, subst, ap₂, arith}
use Rattle.ring.specs.Ring.{CommRing}
use Rattle.ring.proofs.Laws.{opposite_plus, opposite_zero, zero_plus}
use Rattle.sheet.specs.declared.operand.Operand.{Operand}
use Rattle.sheet.specs.declared.operand.Operand.TheVariants.{Zero, ResultOf}
use Rattle.sheet.specs.declared.operation.Operation.TheVariants.{Add, Sub, Mul, Neg}
use Rattle.sheet.specs.declared.step.Step.{Step}
use Rattle.sheet.specs.Values.{StepValues, operand_value, operate, step_value}
use Rattle.algebra.specs.Cubes.{letters}
use Rattle.algebra.specs.Rows.{Row}
use Rattle.algebra.specs.Sums.{adding, multiplying, total}
use Rattle.algebra.specs.Worth.{cube_worth, worth}
use Rattle.algebra.proofs.Sums.{total_append, total_map}
use Rattle.emission.specs.Steps.{Link, Signed, chain_end, chain_steps, end_from, expression_result, expression_steps, letter_operand, letters_in, negated, product_chain, products, row_chain, signed_link, steps_from, sum_behind, sum_chain, summands}
use Rattle.emission.proofs.Letters.{letters_total}

pub length_steps : (n : ℕ) (x : Operand) (ks : List Link) → length (steps_from n x ks) ≡ length ks
length_steps n x [] = refl
length_steps n x (k ∷ ks) = ap suc (length_steps (n + 1) (ResultOf n) ks)

module _ {S : Type 0} (c : CommRing S) (numerals : List ℕ) (measures cells : List S) where
  abbrev pub value : Operand → S
  value o = operand_value c numerals measures cells o

  -- the law of steps that stand from the number n on
  abbrev pub Kept : ℕ → List Step → Type 0
  Kept n [] = Unit {0}
  Kept n (s ∷ ss) = (get_or cells n c.zero ≡ step_value c numerals measures cells s) × Kept (n + 1) ss

  pub kept_append : (n : ℕ) (xs ys : List Step) → Kept n (xs ++ ys) → Kept n xs × Kept (n + length xs) ys
  kept_append n [] ys h = let e : n ≡ n + 0 = omega arith in (tt, subst (λ (m : ℕ). Kept m ys) e h)
  kept_append n (x ∷ xs) ys h =
      let r : Kept (n + 1) xs × Kept (n + 1 + length xs) ys = kept_append (n + 1) xs ys h.1 in
      let e : n + 1 + length xs ≡ n + suc (length xs) = omega arith in
      ((h.0, r.0), subst (λ (m : ℕ). Kept m ys) e r.1)

  kept_each : (n : ℕ) (xs : List Step) → ((k : ℕ) (d : Step) → k < length xs → get_or cells (n + k) c.zero ≡ step_value c numerals measures cells (get_or xs k d)) → Kept n xs
  kept_each n [] h = tt
  kept_each n (x ∷ xs) h =
      let z : n + 0 ≡ n = omega arith in (
        ap (λ (m : ℕ). get_or cells m c.zero) (sym z) ∙ h 0 x (omega arith),
        kept_each (n + 1) xs (λ k d l. let e : n + 1 + k ≡ n + suc k = omega arith in ap (λ (m : ℕ). get_or cells m c.zero) e ∙ h (suc k) d (omega arith)),
      )

  pub kept_all : (xs : List Step) → StepValues c numerals measures xs (length xs) cells → Kept 0 xs
  kept_all xs h = kept_each 0 xs (λ k d l. let e : 0 + k ≡ k = omega arith in ap (λ (m : ℕ). get_or cells m c.zero) e ∙ h k d l)

  -- what links make of a value
  abbrev run : S → List Link → S
  run v [] = v
  run v (k ∷ ks) = run (operate c k.0 v (value k.1)) ks

  chain_worth : (n : ℕ) (x : Operand) (ks : List Link) → Kept n (steps_from n x ks) → value (end_from n x ks) ≡ run (value x) ks
  chain_worth n x [] h = refl
  chain_worth n x (k ∷ ks) h = chain_worth (n + 1) (ResultOf n) ks h.1 ∙ ap (λ (v : S). run v ks) h.0

  run_append : (v : S) (ks js : List Link) → run v (ks ++ js) ≡ run (run v ks) js
  run_append v [] js = refl
  run_append v (k ∷ ks) js = run_append (operate c k.0 v (value k.1)) ks js

  -- the product and the sum of operands
  abbrev product_value : List Operand → S
  product_value xs = total (multiplying c) value xs

  abbrev sum_value : List Operand → S
  sum_value xs = total (adding c) value xs

  run_mul : (v : S) (xs : List Operand) → run v (map (λ y. (Mul, y)) xs) ≡ c.times v (product_value xs)
  run_mul v [] = sym (c.times_one v)
  run_mul v (x ∷ xs) = run_mul (c.times v (value x)) xs ∙ c.times_assoc _ _ _

  run_add : (v : S) (xs : List Operand) → run v (map (λ y. (Add, y)) xs) ≡ c.plus v (sum_value xs)
  run_add v [] = sym (c.plus_zero v)
  run_add v (x ∷ xs) = run_add (c.plus v (value x)) xs ∙ c.plus_assoc _ _ _

  run_sub : (v : S) (xs : List Operand) → run v (map (λ y. (Sub, y)) xs) ≡ c.plus v (c.opposite (sum_value xs))
  run_sub v [] = sym (ap (c.plus v) (opposite_zero c) ∙ c.plus_zero v)
  run_sub v (x ∷ xs) = run_sub (c.plus v (c.opposite (value x))) xs ∙ c.plus_assoc _ _ _ ∙ ap (c.plus v) (sym (opposite_plus c (value x) (sum_value xs)))

  abbrev signed_value : Signed → S
  signed_value t = cond t.0 (c.opposite (value t.1)) (value t.1)

  abbrev signed_sum : List Signed → S
  signed_sum ts = total (adding c) signed_value ts

  run_signed : (v : S) (ts : List Signed) → run v (map signed_link ts) ≡ c.plus v (signed_sum ts)
  run_signed v [] = sym (c.plus_zero v)
  run_signed v ((true, x) ∷ ts) = run_signed (c.plus v (c.opposite (value x))) ts ∙ c.plus_assoc _ _ _
  run_signed v ((false, x) ∷ ts) = run_signed (c.plus v (value x)) ts ∙ c.plus_assoc _ _ _

  product_worth : (n : ℕ) (xs : List Operand) → Kept n (chain_steps n (product_chain xs)) → value (chain_end n (product_chain xs)) ≡ product_value xs
  product_worth n [] h = refl
  product_worth n (x ∷ xs) h = chain_worth n x (map (λ y. (Mul, y)) xs) h ∙ run_mul (value x) xs

  negated_worth : (n : ℕ) (xs : List Operand) → Kept n (chain_steps n (negated xs)) → value (chain_end n (negated xs)) ≡ c.opposite (sum_value xs)
  negated_worth n [] h = sym (opposite_zero c)
  negated_worth n (x ∷ xs) h =
      chain_worth n x (map (λ y. (Add, y)) xs ++ (Neg, Zero) ∷ []) h
      ∙ run_append (value x) (map (λ y. (Add, y)) xs) ((Neg, Zero) ∷ [])
      ∙ ap c.opposite (run_add (value x) xs)

  -- those before are subtracted, whichever comes first
  sum_worth : (n : ℕ) (before : List Operand) (ts : List Signed) → Kept n (chain_steps n (sum_behind before ts)) → value (chain_end n (sum_behind before ts)) ≡ c.plus (c.opposite (sum_value before)) (signed_sum ts)
  sum_worth n before [] h = negated_worth n before h ∙ sym (c.plus_zero _)
  sum_worth n before ((true, x) ∷ ts) h =
      sum_worth n (before ++ x ∷ []) ts h
      ∙ ap (λ (v : S). c.plus v (signed_sum ts))
      (ap c.opposite (total_append (adding c) value before (x ∷ []) ∙ ap (c.plus (sum_value before)) (c.plus_zero (value x))) ∙ opposite_plus c (sum_value before) (value x))
      ∙ c.plus_assoc _ _ _
  sum_worth n before ((false, x) ∷ ts) h =
      chain_worth n x (map (λ y. (Sub, y)) before ++ map signed_link ts) h
      ∙ run_append (value x) (map (λ y. (Sub, y)) before) (map signed_link ts)
      ∙ run_signed (run (value x) (map (λ y. (Sub, y)) before)) ts
      ∙ ap (λ (v : S). c.plus v (signed_sum ts)) (run_sub (value x) before ∙ c.plus_comm _ _)
      ∙ c.plus_assoc _ _ _

  -- what a letter is worth by the results of the expressions
  abbrev pub letter_value : List Operand → ℕ → S
  letter_value results l = value (letter_operand results l)

  row_chain_worth : (results : List Operand) (n : ℕ) (r : Row) → Kept n (chain_steps n (row_chain results r)) → value (chain_end n (row_chain results r)) ≡ cube_worth c (letter_value results) r.cube
  row_chain_worth results n r h =
      product_worth n (map (letter_operand results) (letters_in r.cube)) h
      ∙ total_map (multiplying c) value (letter_operand results) (letters_in r.cube)
      ∙ letters_total (multiplying c) (letter_value results) r.cube letters

  summands_worth : (results : List Operand) (n : ℕ) (rows : List Row) → Kept n (products results n rows) → signed_sum (summands results n rows) ≡ worth c (letter_value results) rows
  summands_worth results n [] h = refl
  summands_worth results n (r ∷ rows) h =
      let k = row_chain results r in
      let m = n + length k.links in
      let parts = kept_append n (chain_steps n k) (products results m rows) h in
      let later : Kept m (products results m rows) = subst (λ (i : ℕ). Kept (n + i) (products results m rows)) (length_steps n k.start k.links) parts.1 in
      ap₂ c.plus (ap (λ (v : S). cond r.negative (c.opposite v) v) (row_chain_worth results n r parts.0)) (summands_worth results m rows later)

  pub expression_worth : (results : List Operand) (n : ℕ) (rows : List Row) → Kept n (expression_steps results n rows) → value (expression_result results n rows) ≡ worth c (letter_value results) rows
  expression_worth results n rows h =
      let ts = summands results n rows in
      let m = n + length (products results n rows) in
      let parts = kept_append n (products results n rows) (chain_steps m (sum_chain ts)) h in
      sum_worth m [] ts parts.1
      ∙ ap (λ (v : S). c.plus v (signed_sum ts)) (opposite_zero c) ∙ zero_plus c (signed_sum ts)
      ∙ summands_worth results n rows parts.0
