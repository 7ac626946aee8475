-- Rows, terms and expressions, one after another.
use Rattle.std.proofs.Common.{◌≡◌, ℕ, ◌+◌, ◌<◌, ◌≤◌, List, [], ◌∷◌, ◌++◌, length, get_or, take, drop, set, sym, ap, ◌∙◌, ap₂, append_assoc, add-zero, arith}
use Rattle.std.proofs.lemmas.List.{append-nil, drop_more, length-append, map-append, take-append-drop}
use Rattle.sheet.specs.declared.operand.Operand.{Operand}
use Rattle.sheet.specs.declared.step.Step.{Step}
use Rattle.algebra.specs.Counts.{less_one, multiplications}
use Rattle.algebra.specs.Rows.{Row as Term, degree}
use Rattle.algebra.proofs.Tallies.{multiplications_append}
use Rattle.cubes.specs.declared.row.Row.{Row}
use Rattle.cubes.specs.Powers.{power}
use Rattle.cubes.specs.Rows.{as_row, as_rows}
use Rattle.emission.specs.Steps.{Signed, chain_end, chain_steps, emitted, expression_result, expression_steps, products, resulting, row_chain, sum_chain, summands}
use Rattle.emitter.specs.declared.draft.Draft.{Draft}
use Rattle.emitter.specs.Appended.{Appended}
use Rattle.emitter.specs.Chained.{Built}
use Rattle.emission.proofs.Chains.{length_steps}
use Rattle.emission.proofs.Counting.{products_length}
use Rattle.emitter.proofs.Writes.{appended_same, appended_then}

module _ (results : List Operand) where
  pub products_next : (n : ℕ) (r : Term) (rows : List Term) → n + length (row_chain results r).links + length (products results (n + length (row_chain results r).links) rows) ≡ n + length (products results n (r ∷ rows))
  products_next n r rows =
      let k = row_chain results r in
      let rest = products results (n + length k.links) rows in
      let e = length-append (chain_steps n k) rest in
      let s = length_steps n k.start k.links in
      omega arith

  pub products_push : (n : ℕ) (xs : List Term) (r : Term) → products results n (xs ++ r ∷ []) ≡ products results n xs ++ chain_steps (n + length (products results n xs)) (row_chain results r)
  products_push n [] r = append-nil (chain_steps n (row_chain results r)) ∙ ap (λ (m : ℕ). chain_steps m (row_chain results r)) (sym (add-zero n))
  products_push n (x ∷ xs) r =
      let k = row_chain results x in
      let m = n + length k.links in
      ap (λ (ss : List Step). chain_steps n k ++ ss) (products_push m xs r ∙ ap (λ (i : ℕ). products results m xs ++ chain_steps i (row_chain results r)) (products_next n x xs))
      ∙ sym (append_assoc (chain_steps n k) (products results m xs) (chain_steps (n + length (products results n (x ∷ xs))) (row_chain results r)))

  pub summands_push : (n : ℕ) (xs : List Term) (r : Term) → summands results n (xs ++ r ∷ []) ≡ summands results n xs ++ (r.negative, chain_end (n + length (products results n xs)) (row_chain results r)) ∷ []
  summands_push n [] r = ap (λ (m : ℕ). (r.negative, chain_end m (row_chain results r)) ∷ []) (sym (add-zero n))
  summands_push n (x ∷ xs) r =
      let k = row_chain results x in
      let m = n + length k.links in
      ap (λ (ts : List Signed). (x.negative, chain_end n k) ∷ ts) (summands_push m xs r ∙ ap (λ (i : ℕ). summands results m xs ++ (r.negative, chain_end i (row_chain results r)) ∷ []) (products_next n x xs))

-- the row at i has its multiplications among those of all
pub row_room : (rows : List Row) (i : ℕ) (d : Row) → i < length rows → multiplications (as_rows (take i rows)) + less_one (degree (power (get_or rows i d).cube)) ≤ multiplications (as_rows rows)
row_room rows i d h =
    let r = as_row (get_or rows i d) in
    let rest = as_rows (drop (i + 1) rows) in
    let e : as_rows rows ≡ as_rows (take i rows) ++ r ∷ rest = ap as_rows (sym (take-append-drop i rows)) ∙ map-append as_row (take i rows) (drop i rows) ∙ ap (λ (xs : List Row). as_rows (take i rows) ++ as_rows xs) (drop_more rows i d h) in
    omega (arith, ap multiplications e, multiplications_append (as_rows (take i rows)) (r ∷ rest))

pub expression_parts : (results : List Operand) (n : ℕ) (rows : List Term) → length (expression_steps results n rows) ≡ multiplications rows + length (sum_chain (summands results n rows)).links
expression_parts results n rows =
    let k = sum_chain (summands results n rows) in
    let m = n + length (products results n rows) in
    length-append (products results n rows) (chain_steps m k)
    ∙ ap₂ (λ (i j : ℕ). i + j) (products_length results n rows) (length_steps m k.start k.links)

-- the products, and then the sum of their operands
pub expressed : {old mid new : Draft} (results : List Operand) (rows : List Term) {result : Operand} → Appended old (products results old.next rows) mid → Built mid (sum_chain (summands results old.next rows)) result new
    → record { end : result ≡ expression_result results old.next rows; steps : Appended old (expression_steps results old.next rows) new }
expressed {old} {mid} results rows p b =
    let before = products results old.next rows in
    let k = sum_chain (summands results old.next rows) in
    record {
      end = b.end ∙ ap (λ (n : ℕ). chain_end n k) p.next;
      steps = appended_same (appended_then p b.steps) (ap (λ (n : ℕ). before ++ chain_steps n k) p.next);
    }

module _ (rows : ℕ → List Term) where
  pub emitted_next : (results : List Operand) (n e : ℕ) (es : List ℕ) → n + length (expression_steps results n (rows e)) + length (emitted rows (set results e (expression_result results n (rows e))) (n + length (expression_steps results n (rows e))) es) ≡ n + length (emitted rows results n (e ∷ es))
  emitted_next results n e es =
      let xs = expression_steps results n (rows e) in
      let rest = emitted rows (set results e (expression_result results n (rows e))) (n + length xs) es in
      let a = length-append xs rest in
      omega arith

  pub emitted_push : (results : List Operand) (n : ℕ) (es : List ℕ) (e : ℕ) → emitted rows results n (es ++ e ∷ []) ≡ emitted rows results n es ++ expression_steps (resulting rows results n es) (n + length (emitted rows results n es)) (rows e)
  emitted_push results n [] e = append-nil (expression_steps results n (rows e)) ∙ ap (λ (m : ℕ). expression_steps results m (rows e)) (sym (add-zero n))
  emitted_push results n (x ∷ es) e =
      let xs = expression_steps results n (rows x) in
      let m = n + length xs in
      let after = set results x (expression_result results n (rows x)) in
      let last = resulting rows after m es in
      ap (λ (ss : List Step). xs ++ ss) (emitted_push after m es e ∙ ap (λ (i : ℕ). emitted rows after m es ++ expression_steps last i (rows e)) (emitted_next results n x es))
      ∙ sym (append_assoc xs (emitted rows after m es) (expression_steps last (n + length (emitted rows results n (x ∷ es))) (rows e)))

  pub resulting_push : (results : List Operand) (n : ℕ) (es : List ℕ) (e : ℕ) → resulting rows results n (es ++ e ∷ []) ≡ set (resulting rows results n es) e (expression_result (resulting rows results n es) (n + length (emitted rows results n es)) (rows e))
  resulting_push results n [] e = ap (λ (m : ℕ). set results e (expression_result results m (rows e))) (sym (add-zero n))
  resulting_push results n (x ∷ es) e =
      let xs = expression_steps results n (rows x) in
      let m = n + length xs in
      let after = set results x (expression_result results n (rows x)) in
      let last = resulting rows after m es in
      resulting_push after m es e ∙ ap (λ (i : ℕ). set last e (expression_result last i (rows e))) (emitted_next results n x es)
