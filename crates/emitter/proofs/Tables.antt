-- The expressions of a table along its making order.
use Rattle.std.proofs.Common.{◌≡◌, ℕ, ◌+◌, ◌<◌, ◌≤◌, List, [], ◌∷◌, length, get_or, take, sym, refl, ap, ◌∙◌, arith, length-take}
use Rattle.std.specs.List.{sum_by}
use Rattle.std.proofs.lemmas.List.Sums.{sum_by-cons, sum_by_more_le}
use Rattle.sheet.specs.declared.operand.Operand.{Operand}
use Rattle.algebra.specs.Rows.{Row as Term}
use Rattle.algebra.specs.Sums.{counting, total}
use Rattle.emission.specs.Steps.{emitted}
use Rattle.emission.proofs.Counting.{emitted_length}
use Rattle.table.specs.declared.table.Table.{Table}
use Rattle.table.specs.Of.{order_of, standing_in}
use Rattle.emitter.specs.Operations.{operations}

pub order_few : (t : Table) → length (order_of t) ≤ 32
order_few t = omega (arith, length-take (standing_in t) t.order, t.places)

-- the steps along an order are the sum of the operations
module _ (rows : ℕ → List Term) where
  sum_is : (es : List ℕ) → sum_by (λ e. operations (rows e)) es ≡ total counting (λ e. operations (rows e)) es
  sum_is [] = refl
  sum_is (e ∷ es) = sum_by-cons (λ (n : ℕ). operations (rows n)) e es ∙ ap (λ (n : ℕ). operations (rows e) + n) (sum_is es)

  pub emitted_sum : (results : List Operand) (n : ℕ) (es : List ℕ) → length (emitted rows results n es) ≡ sum_by (λ e. operations (rows e)) es
  emitted_sum results n es = emitted_length rows results n es ∙ sym (sum_is es)

  -- the expression at k has its steps among those of all
  pub emitted_room : (results : List Operand) (n : ℕ) (order : List ℕ) (k : ℕ) → k < length order
      → length (emitted rows results n (take k order)) + operations (rows (get_or order k 0)) ≤ length (emitted rows results n order)
  emitted_room results n order k h =
      omega (arith, emitted_sum results n (take k order), emitted_sum results n order, sum_by_more_le (λ (e : ℕ). operations (rows e)) order k 0 h)
