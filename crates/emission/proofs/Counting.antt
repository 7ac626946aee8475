-- Emitted steps, counted: each operation has a weight, and the sum of the weights is found at once for every choice of them.
use Rattle.std.proofs.Common.{◌≡◌, ℕ, suc, ◌+◌, ◌*◌, ◌<◌, ◌≤◌, Bool, true, false, cond, ◌&&◌, ◌||◌, List, [], ◌∷◌, ◌++◌, map, length, set, sym, refl, ap, ◌∙◌, ap₂, arith}
use Rattle.std.specs.List.{AllByRecursion}
use Rattle.std.proofs.lemmas.List.{length-append, length-map, length-take-le}
use Rattle.std.proofs.lemmas.List.Sums.{sum_by-cons}
use Rattle.sheet.specs.declared.operand.Operand.{Operand}
use Rattle.sheet.specs.declared.operand.Operand.TheVariants.{Zero, ResultOf}
use Rattle.sheet.specs.declared.operation.Operation.{Operation}
use Rattle.sheet.specs.declared.operation.Operation.TheVariants.{Add, Sub, Mul, Neg}
use Rattle.sheet.specs.declared.step.Step.{Step}
use Rattle.sheet.specs.Counting.{adds, how_many, multiplies, negates}
use Rattle.algebra.specs.Counts.{additions, all_negative, less_one, multiplications, negations, row_multiplications}
use Rattle.algebra.specs.Cubes.{letters}
use Rattle.algebra.specs.Rows.{Row}
use Rattle.algebra.specs.Sums.{counting, total, up_to}
use Rattle.algebra.proofs.Sums.{total_append, total_constant, total_map, total_same, up_to_join, up_to_neutral, up_to_same, up_to_through}
use Rattle.algebra.proofs.Tallies.{less_one_more}
use Rattle.rewriting.specs.Factor.{Apart, has}
use Rattle.rewriting.specs.Order.{Ordered}
use Rattle.rewriting.specs.Styles.{Style, equal, over, standing}
use Rattle.rewriting.proofs.Parts.{equal_true}
use Rattle.rewriting.proofs.Savings.{up_to_at}
use Rattle.emission.specs.Promises.{EmitCounts, steps_of}
use Rattle.emission.specs.Steps.{Link, Signed, chain_steps, emit_results, emitted, expression_result, expression_steps, letter_operand, letters_in, none_made, product_chain, products, row_chain, signed_link, steps_from, sum_behind, sum_chain, summands}
use Rattle.emission.proofs.Letters.{letters_length}
use Rattle.emission.proofs.Makings.{results_length}

-- a sum over a list of numbers below n, none twice, is a sum over the numbers below n
total_order : (f : ℕ → ℕ) (n : ℕ) (es : List ℕ) → Apart es → AllByRecursion (λ (e : ℕ). e < n) es → up_to counting n (λ k. cond (has es k) (f k) 0) ≡ total counting f es
total_order f n [] a l = up_to_neutral counting n _ (λ k h. refl)
total_order f n (e ∷ es) a l =
    up_to_same counting n _ (λ k. cond (equal k e) (f e) 0 + cond (has es k) (f k) 0) (λ k _. split k (equal k e) refl)
    ∙ up_to_join counting n (λ k. cond (equal k e) (f e) 0) (λ k. cond (has es k) (f k) 0)
    ∙ ap₂ ◌+◌ (up_to_at (f e) e n l.0) (total_order f n es a.1 l.1)
  where
    split : (k : ℕ) (b : Bool) → equal k e ≡ b → cond (b || has es k) (f k) 0 ≡ cond b (f e) 0 + cond (has es k) (f k) 0
    split k true q =
        let r = equal_true k e q in
        let z : has es k ≡ false = ap (has es) r ∙ a.0 in
        omega (arith, ap f r, ap (λ (v : Bool). cond v (f k) 0) z)
    split k false q = omega arith

-- all of them are negative
abbrev none_positive : List Signed → Bool
none_positive [] = true
none_positive (t ∷ ts) = t.0 && none_positive ts

pub summands_length : (results : List Operand) (n : ℕ) (rows : List Row) → length (summands results n rows) ≡ length rows
summands_length results n [] = refl
summands_length results n (r ∷ rows) = ap suc (summands_length results (n + length (row_chain results r).links) rows)

summands_signs : (results : List Operand) (n : ℕ) (rows : List Row) → none_positive (summands results n rows) ≡ all_negative rows
summands_signs results n [] = refl
summands_signs results n (r ∷ rows) = ap (λ (b : Bool). r.negative && b) (summands_signs results (n + length (row_chain results r).links) rows)

-- a row has a link for each multiplication
pub row_length : (results : List Operand) (r : Row) → length (row_chain results r).links ≡ row_multiplications r
row_length results r = product_length (map (letter_operand results) (letters_in r.cube)) ∙ ap less_one (length-map (letters_in r.cube) (letter_operand results) ∙ letters_length r.cube letters)
  where
    product_length : (xs : List Operand) → length (product_chain xs).links ≡ less_one (length xs)
    product_length [] = refl
    product_length (x ∷ xs) = length-map xs (λ y. (Mul, y))

-- the weights of steps
abbrev weight : (Operation → ℕ) → List Step → ℕ
weight w xs = total counting (λ (s : Step). w s.operation) xs

-- where a subtraction weighs as much as an addition
module _ (w : Operation → ℕ) (alike : w Sub ≡ w Add) where
  abbrev links_weight : List Link → ℕ
  links_weight ks = total counting (λ (k : Link). w k.0) ks

  weight_append : (xs ys : List Step) → weight w (xs ++ ys) ≡ weight w xs + weight w ys
  weight_append xs ys = total_append counting (λ (s : Step). w s.operation) xs ys

  chain_weight : (n : ℕ) (x : Operand) (ks : List Link) → weight w (steps_from n x ks) ≡ links_weight ks
  chain_weight n x [] = refl
  chain_weight n x (k ∷ ks) = ap (λ (i : ℕ). w k.0 + i) (chain_weight (n + 1) (ResultOf n) ks)

  each_weight : (o : Operation) (xs : List Operand) → links_weight (map (λ y. (o, y)) xs) ≡ length xs * w o
  each_weight o xs = total_map counting (λ (k : Link). w k.0) (λ y. (o, y)) xs ∙ total_constant (w o) xs

  signed_weight : (ts : List Signed) → links_weight (map signed_link ts) ≡ length ts * w Add
  signed_weight ts = total_map counting (λ (k : Link). w k.0) signed_link ts ∙ total_same counting _ (λ _. w Add) ts (λ t. one t.0) ∙ total_constant (w Add) ts
    where
      one : (b : Bool) → w (cond b Sub Add) ≡ w Add
      one true = alike
      one false = refl

  product_weight : (xs : List Operand) → links_weight (product_chain xs).links ≡ length (product_chain xs).links * w Mul
  product_weight [] = omega arith
  product_weight (x ∷ xs) = each_weight Mul xs ∙ ap (λ (i : ℕ). i * w Mul) (sym (length-map xs (λ y. (Mul, y))))

  sum_weight : (before : List Operand) (ts : List Signed) → 1 ≤ length before + length ts
      → links_weight (sum_behind before ts).links ≡ less_one (length before + length ts) * w Add + cond (none_positive ts) 1 0 * w Neg
  sum_weight [] [] h = absurd (omega arith)
  sum_weight (x ∷ xs) [] h =
      let e : less_one (suc (length xs) + 0) ≡ length xs = omega (arith, less_one_more (suc (length xs) + 0) (omega arith)) in
      total_append counting (λ (k : Link). w k.0) (map (λ y. (Add, y)) xs) ((Neg, Zero) ∷ [])
      ∙ ap₂ ◌+◌ (each_weight Add xs ∙ ap (λ (i : ℕ). i * w Add) (sym e)) (omega arith)
  sum_weight before ((true, x) ∷ ts) h =
      let e : length (before ++ x ∷ []) + length ts ≡ length before + suc (length ts) = omega (arith, length-append before (x ∷ [])) in
      sum_weight (before ++ x ∷ []) ts (omega arith) ∙ ap (λ (i : ℕ). less_one i * w Add + cond (none_positive ts) 1 0 * w Neg) e
  sum_weight before ((false, x) ∷ ts) h =
      let e : length before + length ts ≡ less_one (length before + suc (length ts)) = omega (arith, less_one_more (length before + suc (length ts)) (omega arith)) in
      total_append counting (λ (k : Link). w k.0) (map (λ y. (Sub, y)) before) (map signed_link ts)
      ∙ ap₂ ◌+◌ (each_weight Sub before ∙ ap (λ (i : ℕ). length before * i) alike) (signed_weight ts)
      ∙ joined (length before) (length ts) (w Add) ∙ ap (λ (i : ℕ). i * w Add + 0 * w Neg) e
    where
      joined : (a b m : ℕ) → a * m + b * m ≡ (a + b) * m + 0 * w Neg
      joined a b m = omega arith

  products_weight : (results : List Operand) (n : ℕ) (rows : List Row) → weight w (products results n rows) ≡ multiplications rows * w Mul
  products_weight results n [] = omega arith
  products_weight results n (r ∷ rows) =
      let k = row_chain results r in
      weight_append (chain_steps n k) (products results (n + length k.links) rows)
      ∙ ap₂ ◌+◌
      (chain_weight n k.start k.links ∙ product_weight (map (letter_operand results) (letters_in r.cube)) ∙ ap (λ (i : ℕ). i * w Mul) (row_length results r))
      (products_weight results (n + length k.links) rows)
      ∙ joined (row_multiplications r) (multiplications rows) (w Mul)
    where
      joined : (a b m : ℕ) → a * m + b * m ≡ (a + b) * m
      joined a b m = omega arith

  summands_weight : (results : List Operand) (n : ℕ) (rows : List Row) → links_weight (sum_chain (summands results n rows)).links ≡ additions rows * w Add + negations rows * w Neg
  summands_weight results n [] = omega arith
  summands_weight results n (r ∷ rows) =
      let ts = summands results n (r ∷ rows) in
      let e : 0 + length ts ≡ suc (length rows) = omega (arith, summands_length results n (r ∷ rows)) in
      sum_weight [] ts (omega arith) ∙ ap₂ (λ (i : ℕ) (b : Bool). less_one i * w Add + cond b 1 0 * w Neg) e (summands_signs results n (r ∷ rows))

  -- what the operations of an expression weigh
  abbrev counted : List Row → ℕ
  counted rows = multiplications rows * w Mul + (additions rows * w Add + negations rows * w Neg)

  expression_weight : (results : List Operand) (n : ℕ) (rows : List Row) → weight w (expression_steps results n rows) ≡ counted rows
  expression_weight results n rows =
      let m = n + length (products results n rows) in
      let k = sum_chain (summands results n rows) in
      weight_append (products results n rows) (chain_steps m k) ∙ ap₂ ◌+◌ (products_weight results n rows) (chain_weight m k.start k.links ∙ summands_weight results n rows)

  emitted_weight : (rows : ℕ → List Row) (results : List Operand) (n : ℕ) (es : List ℕ) → weight w (emitted rows results n es) ≡ total counting (λ e. counted (rows e)) es
  emitted_weight rows results n [] = refl
  emitted_weight rows results n (e ∷ es) =
      let xs = expression_steps results n (rows e) in
      let v = expression_result results n (rows e) in
      weight_append xs (emitted rows (set results e v) (n + length xs) es)
      ∙ ap₂ ◌+◌ (expression_weight results n (rows e)) (emitted_weight rows (set results e v) (n + length xs) es)

  steps_weight : (s : Style) (order : List ℕ) → Ordered s order → weight w (steps_of s order) ≡ over multiplications s * w Mul + (over additions s * w Add + over negations s * w Neg)
  steps_weight s order o =
      emitted_weight s.expression none_made 0 order
      ∙ sym (total_order each n order o.once o.stand)
      ∙ up_to_same counting n _ each (λ e l. ap (λ (b : Bool). cond b (each e) 0) (o.there e l))
      ∙ up_to_join counting n (λ e. multiplications (s.expression e) * w Mul) (λ e. additions (s.expression e) * w Add + negations (s.expression e) * w Neg)
      ∙ ap₂ ◌+◌ (times multiplications (w Mul))
      (up_to_join counting n (λ e. additions (s.expression e) * w Add) (λ e. negations (s.expression e) * w Neg) ∙ ap₂ ◌+◌ (times additions (w Add)) (times negations (w Neg)))
    where
      n : ℕ
      n = standing s

      each : ℕ → ℕ
      each e = counted (s.expression e)

      times : (count : List Row → ℕ) (m : ℕ) → up_to counting n (λ e. count (s.expression e) * m) ≡ over count s * m
      times count m = up_to_through counting counting (λ x. x * m) (omega arith) (λ x y. omega arith) n (λ e. count (s.expression e))

-- how many steps there are of a sort: one for each whose operation passes the test
abbrev one_if : (Operation → Bool) → Operation → ℕ
one_if test p = cond (test p) 1 0

how_many_is : (test : Operation → Bool) (xs : List Step) → how_many test xs ≡ weight (one_if test) xs
how_many_is test [] = refl
how_many_is test (x ∷ xs) = sum_by-cons (λ (s : Step). one_if test s.operation) x xs ∙ ap (λ (i : ℕ). one_if test x.operation + i) (how_many_is test xs)

-- all steps: each has the weight 1
length_is : {X : Type 0} (xs : List X) → length xs ≡ total counting (λ _. 1) xs
length_is xs = omega (arith, total_constant 1 xs)

pub products_length : (results : List Operand) (n : ℕ) (rows : List Row) → length (products results n rows) ≡ multiplications rows
products_length results n rows = length_is (products results n rows) ∙ products_weight (λ _. 1) refl results n rows ∙ omega arith

pub sum_length : (results : List Operand) (n : ℕ) (rows : List Row) → length (sum_chain (summands results n rows)).links ≡ additions rows + negations rows
sum_length results n rows = length_is (sum_chain (summands results n rows)).links ∙ summands_weight (λ _. 1) refl results n rows ∙ omega arith

-- the steps that an expression takes, and the expressions of an order
abbrev pub steps_in : List Row → ℕ
steps_in rows = multiplications rows + (additions rows + negations rows)

pub expression_length : (results : List Operand) (n : ℕ) (rows : List Row) → length (expression_steps results n rows) ≡ steps_in rows
expression_length results n rows = length_is (expression_steps results n rows) ∙ expression_weight (λ _. 1) refl results n rows ∙ omega arith

pub emitted_length : (rows : ℕ → List Row) (results : List Operand) (n : ℕ) (es : List ℕ) → length (emitted rows results n es) ≡ total counting (λ e. steps_in (rows e)) es
emitted_length rows results n es =
    length_is (emitted rows results n es) ∙ emitted_weight (λ _. 1) refl rows results n es
    ∙ total_same counting (λ e. counted (λ _. 1) refl (rows e)) (λ e. steps_in (rows e)) es (λ e. omega arith)

pub emit_counts : EmitCounts
emit_counts s order o = record {
  mul = of multiplies refl ∙ omega arith;
  add = of adds refl ∙ omega arith;
  neg = of negates refl ∙ omega arith;
  all = length_is (steps_of s order) ∙ steps_weight (λ _. 1) refl s order o ∙ omega arith;
  outputs = length-take-le 16 (emit_results s.expression order) (omega (arith, results_length s.expression order));
}
  where
    of : (test : Operation → Bool) → one_if test Sub ≡ one_if test Add
        → how_many test (steps_of s order) ≡ over multiplications s * one_if test Mul + (over additions s * one_if test Add + over negations s * one_if test Neg)
    of test alike = how_many_is test (steps_of s order) ∙ steps_weight (one_if test) alike s order o
