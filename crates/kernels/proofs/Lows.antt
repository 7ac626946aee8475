-- The lowest power of a letter in the rows so far.
use Rattle.std.proofs.Common.{◌≡◌, ℕ, ◌+◌, ◌<◌, ◌≤◌, min, ◌⊎◌, Option, Some, None, sym, refl, ap, ◌∙◌, inl, inr, arith, below_more, is_some}
use Rattle.std.proofs.lemmas.Bool.{false≢true}
use Rattle.cubes.specs.Rows.{most_rows}
use Rattle.cubes.specs.Powers.{power}
use Rattle.cubes.specs.declared.cube.Cube.{Cube}
use Rattle.kernels.specs.Rests.{Live, cube_left, row, slot, Lowest}
use Rattle.kernels.specs.declared.rest.Rest.{Rest}

-- p is the lowest power of l in the rows before i, or 255 where there is none
pub record Low (q : Rest) (l i p : ℕ) : Type 0 where
  pub each : (k : ℕ) → k < i → Live q k → p ≤ row q k l
  pub tight : (((k : ℕ) → k < i → Live q k → ⊥) × (p ≡ 255)) ⊎ ((k : ℕ) × (k < i) × Live q k × (row q k l ≡ p))

pub low_begin : (q : Rest) (l : ℕ) → Low q l 0 255
low_begin q l = record { each = λ k h. absurd (omega arith); tight = inl ((λ k h r. omega arith), refl) }

cases_min : (a b : ℕ) → (min a b ≡ a) ⊎ (min a b ≡ b)
cases_min a b = grind arith

-- one place more: with a row, and without
pub low_some : (q : Rest) (l i p r : ℕ) (b : Cube) → i < most_rows → slot q i ≡ Some b → Low q l i p → r ≡ min p (power b l) → power b l ≤ 255 → Low q l (i + 1) r
low_some q l i p r b lt is low e fits =
    let here : row q i l ≡ power b l = ap (λ (s : Option Cube). power (cube_left s) l) is in
    let live : Live q i = (lt, ap (λ (s : Option Cube). is_some s) is) in
    record {
      each = below_more (λ k. Live q k → r ≤ row q k l) i (λ k h w. omega (arith, low.each k h w)) (λ w. omega arith);
      tight = elim low.tight [
        | inl n ↦ inr (i, (omega arith), live, omega (arith, n.1))
        | inr w ↦ elim (cases_min p (power b l)) [
          | inl m ↦ inr (w.0, (omega (arith, w.1)), w.2, omega (arith, w.3, m))
          | inr m ↦ inr (i, (omega arith), live, omega (arith, m))
        ]
      ];
    }

pub low_none : (q : Rest) (l i p r : ℕ) → slot q i ≡ None → Low q l i p → r ≡ p → Low q l (i + 1) r
low_none q l i p r is low e =
    let gone : Live q i → ⊥ = λ w. false≢true (sym (ap (λ (s : Option Cube). is_some s) is) ∙ w.1) in
    record {
      each = below_more (λ k. Live q k → r ≤ row q k l) i (λ k h w. omega (arith, low.each k h w)) (λ w. absurd (gone w));
      tight = elim low.tight [
        | inl n ↦ inl (below_more (λ k. Live q k → ⊥) i n.0 gone, omega (arith, n.1))
        | inr w ↦ inr (w.0, (omega (arith, w.1)), w.2, omega (arith, w.3))
      ];
    }

pub low_all : (q : Rest) (l i p : ℕ) → most_rows ≤ i → Low q l i p → ((k : ℕ) × Live q k) → Lowest q l p
low_all q l i p h low some = record {
  each = λ k w. low.each k (omega (arith, w.0)) w;
  tight = elim low.tight [
    | inl n ↦ absurd (n.0 some.0 (omega (arith, some.1.0)) some.1)
    | inr w ↦ (w.0, w.2, w.3)
  ];
}
