-- Kernels of a quotient are kernels of the expression.
use Rattle.std.proofs.Common.{◌≡◌, ℕ, zero, suc, ◌<◌, Bool, true, false, cond, List, [], ◌∷◌, map, length, sym, refl, ap, subst, ⊎_elim, arith}
use Rattle.std.proofs.lemmas.Bool.{cases_order}
use Rattle.std.proofs.lemmas.Bool.Decides.{not_from_Decides}
use Rattle.algebra.specs.Cubes.{letters, Powers, Divides, product, quotient}
use Rattle.algebra.specs.Rows.{Row, cube_in, divides_test, multiples, quotient_row, quotients}
use Rattle.algebra.specs.Kernels.{Uses, KernelAt, QuotientIs}
use Rattle.algebra.specs.Laws.{NestedKernels}
use Rattle.algebra.proofs.Degrees.{divides_decides}

-- two different places, in either order, are two places
pub two_places : (P : ℕ → Type 0) (k m : ℕ) → (k ≡ m → ⊥) → P k → P m → (i : ℕ) × (j : ℕ) × (i < j) × P i × P j
two_places P k m n p q =
    ⊎_elim (λ e. absurd (n e)) (⊎_elim (λ l. (k, m, l, p, q)) (λ l. (m, k, l, q, p))) (cases_order k m)

module _ (rows : ℕ) (cube_at : ℕ → Powers) (c : Powers) (count : ℕ) (rest_at : ℕ → Powers) (q : QuotientIs rows cube_at c count rest_at) (d : Powers) where
  -- d divides row k of the quotient just where c times d divides the row that it came from
  pub uses_up : (k : ℕ) → Uses count rest_at d k → Uses rows cube_at (product c d) (q.place k)
  uses_up k u = ((q.used k u.0).0, λ l h. omega (arith, (q.used k u.0).1 l h, q.rest k u.0 l h, u.1 l h))

  pub uses_down : (k : ℕ) → k < count → Uses rows cube_at (product c d) (q.place k) → Uses count rest_at d k
  uses_down k m u = (m, λ l h. omega (arith, u.1 l h, q.rest k m l h))

  pub uses_first : (j : ℕ) → Uses rows cube_at (product c d) j → Uses rows cube_at c j
  uses_first j u = (u.0, λ l h. omega (arith, u.1 l h))

  pub kernel_up : KernelAt count rest_at d → KernelAt rows cube_at (product c d)
  kernel_up x = record {
    two =
        let t = x.two in
        two_places (Uses rows cube_at (product c d)) (q.place t.0) (q.place t.1)
        (q.apart t.0 t.1 t.2 t.4.0) (uses_up t.0 t.3) (uses_up t.1 t.4);
    free = λ l h.
        let f = x.free l h in
        (q.place f.0, uses_up f.0 f.1, omega (arith, f.2, q.rest f.0 f.1.0 l h));
  }

  -- the used row j, at its place in the quotient
  down_at : (j : ℕ) → Uses rows cube_at (product c d) j → (k : ℕ) × (q.place k ≡ j) × Uses count rest_at d k
  down_at j u =
      let a = q.all j (uses_first j u) in
      (a.0, a.2, uses_down a.0 a.1 (subst (Uses rows cube_at (product c d)) (sym a.2) u))

  pub kernel_down : KernelAt rows cube_at (product c d) → KernelAt count rest_at d
  kernel_down x = record {
    two =
        let t = x.two in
        let a = down_at t.0 t.3 in
        let b = down_at t.1 t.4 in
        two_places (Uses count rest_at d) a.0 b.0 (λ e. omega (arith, t.2, a.1, b.1, ap q.place e)) a.2 b.2;
    free = λ l h.
        let f = x.free l h in
        let a = down_at f.0 f.1 in
        (a.0, a.2, omega (arith, f.2, q.rest a.0 a.2.0 l h, ap (λ (j : ℕ). cube_at j l) a.1));
  }

-- an expression's quotients are its quotient: row by row
abbrev behind : (ℕ → ℕ) → ℕ → ℕ
behind place zero = zero
behind place (suc k) = suc (place k)

module _ (c : Powers) (r : Row) (e rest : List Row) (q : QuotientIs (length e) (cube_in e) c (length rest) (cube_in rest)) where
  module _ (divides : Divides c r.cube) where
    used_more : (k : ℕ) → k < suc (length rest) → Uses (length (r ∷ e)) (cube_in (r ∷ e)) c (behind q.place k)
    used_more zero h = (omega arith, divides)
    used_more (suc k) h = let u = q.used k (omega arith) in (omega (arith, u.0), u.1)

    rest_more : (k : ℕ) → k < suc (length rest) → (l : ℕ) → l < letters → cube_in (quotient_row c r ∷ rest) k l ≡ quotient (cube_in (r ∷ e) (behind q.place k)) c l
    rest_more zero h = λ l m. refl
    rest_more (suc k) h = q.rest k (omega arith)

    apart_more : (k m : ℕ) → k < m → m < suc (length rest) → behind q.place k ≡ behind q.place m → ⊥
    apart_more k zero h b w = absurd (omega arith)
    apart_more zero (suc m) h b w = omega arith
    apart_more (suc k) (suc m) h b w = q.apart k m (omega arith) (omega arith) (omega arith)

    all_more : (j : ℕ) → Uses (length (r ∷ e)) (cube_in (r ∷ e)) c j → (k : ℕ) × (k < suc (length rest)) × (behind q.place k ≡ j)
    all_more zero u = (zero, omega arith, refl)
    all_more (suc j) u = let a = q.all j (omega (arith, u.0), u.1) in (suc a.0, omega (arith, a.1), ap suc a.2)

    quotient_more : QuotientIs (length (r ∷ e)) (cube_in (r ∷ e)) c (length (quotient_row c r ∷ rest)) (cube_in (quotient_row c r ∷ rest))
    quotient_more = record { place = behind q.place; used = used_more; rest = rest_more; apart = apart_more; all = all_more }

  module _ (not_divides : Divides c r.cube → ⊥) where
    all_skip : (j : ℕ) → Uses (length (r ∷ e)) (cube_in (r ∷ e)) c j → (k : ℕ) × (k < length rest) × (suc (q.place k) ≡ j)
    all_skip zero u = absurd (not_divides u.1)
    all_skip (suc j) u = let a = q.all j (omega (arith, u.0), u.1) in (a.0, a.1, ap suc a.2)

    quotient_skip : QuotientIs (length (r ∷ e)) (cube_in (r ∷ e)) c (length rest) (cube_in rest)
    quotient_skip = record {
      place = λ k. suc (q.place k);
      used = λ k h. let u = q.used k h in (omega (arith, u.0), u.1);
      rest = q.rest;
      apart = λ k m h b w. q.apart k m h b (omega arith);
      all = all_skip;
    }

pub quotient_made : (e : List Row) (c : Powers) → QuotientIs (length e) (cube_in e) c (length (quotients c e)) (cube_in (quotients c e))
quotient_made [] c = record {
  place = λ k. k;
  used = λ k h. absurd (omega arith);
  rest = λ k h. absurd (omega arith);
  apart = λ k m h b w. omega arith;
  all = λ j u. absurd (omega (arith, u.0));
}
quotient_made (r ∷ e) c = go (divides_test c r.cube) (divides_decides c r.cube).0 (not_from_Decides _ (divides_decides c r.cube)) (quotient_made e c)
  where
    go : (t : Bool) → (t ≡ true → Divides c r.cube) → (t ≡ false → Divides c r.cube → ⊥) → QuotientIs (length e) (cube_in e) c (length (quotients c e)) (cube_in (quotients c e))
        → QuotientIs (length (r ∷ e)) (cube_in (r ∷ e)) c (length (map (quotient_row c) (cond t (r ∷ multiples c e) (multiples c e)))) (cube_in (map (quotient_row c) (cond t (r ∷ multiples c e) (multiples c e))))
    go true y n q = quotient_more c r e (quotients c e) q (y refl)
    go false y n q = quotient_skip c r e (quotients c e) q (n refl)

pub nested_kernels : NestedKernels
nested_kernels rows cube_at c count rest_at q d = (kernel_up rows cube_at c count rest_at q d, kernel_down rows cube_at c count rest_at q d)
