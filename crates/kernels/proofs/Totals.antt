-- The total degree falls.
use Rattle.std.proofs.Common.{ℕ, ◌<◌, ◌≤◌, cond, inl, inr, arith, is_some}
use Rattle.std.proofs.lemmas.Bool.{cases_Bool, cond-true, cond-false}
use Rattle.algebra.specs.Cubes.{letters, Powers}
use Rattle.algebra.specs.Rows.{degree}
use Rattle.cubes.specs.Rows.{most_rows}
use Rattle.algebra.proofs.Sums.{up_to_le, up_to_lt}
use Rattle.kernels.specs.declared.rest.Rest.{Rest}
use Rattle.kernels.specs.Rests.{Live, row, slot}
use Rattle.kernels.specs.Search.{Leads, total}

module _ (q : Rest) (d : Powers) (j : ℕ) (lt : j < letters) (r : Rest) (c : Powers) (leads : Leads q d j r c) where
  less : (k : ℕ) → Live r k → (l : ℕ) → l < letters → row r k l ≤ row q k l
  less k w l h = omega (arith, (leads.rows k w).1 l h, leads.above l h)

  of : Rest → ℕ → ℕ
  of s k = cond (is_some (slot s k)) (degree (row s k)) 0

  of_le : (k : ℕ) → k < most_rows → of r k ≤ of q k
  unfolding of
  of_le k h =
      elim (cases_Bool (is_some (slot r k))) [
        | inl u ↦
            rw (
              cond-true (is_some (slot r k)) (degree (row r k)) 0 u,
              cond-true (is_some (slot q k)) (degree (row q k)) 0 (leads.rows k (h, u)).0.1,
            )
            (up_to_le letters (row r k) (row q k) (less k (h, u)))
        | inr u ↦ rw (cond-false (is_some (slot r k)) (degree (row r k)) 0 u) (omega arith)
      ]

  of_lt : (k : ℕ) → Live r k → of r k < of q k
  unfolding of
  of_lt k w =
      rw (
        cond-true (is_some (slot r k)) (degree (row r k)) 0 w.1,
        cond-true (is_some (slot q k)) (degree (row q k)) 0 (leads.rows k w).0.1,
      )
      (up_to_lt letters (row r k) (row q k) (less k w) j lt (omega (arith, (leads.rows k w).1 j lt, leads.more)))

  pub falls : total r < total q
  unfolding of
  falls = let t = leads.own.two in up_to_lt most_rows (of r) (of q) of_le t.0 t.3.0.0 (of_lt t.0 t.3.0)
