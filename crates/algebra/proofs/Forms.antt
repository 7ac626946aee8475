-- The two forms of a kernel's being free agree: a search over the rows.
use Rattle.std.proofs.Common.{◌≡◌, ℕ, zero, suc, ◌<◌, ◌≤◌, ◌⊎◌, sym, subst, inl, inr, ⊎_elim, arith}
use Rattle.std.proofs.lemmas.Bool.{cases_eq, cases_Bool}
use Rattle.std.proofs.lemmas.Bool.Decides.{not_from_Decides}
use Rattle.algebra.specs.Cubes.{Powers, Same, Divides, quotient}
use Rattle.algebra.specs.Rows.{divides_test}
use Rattle.algebra.specs.Kernels.{Uses, Free, NoCommonLetter, KernelAt}
use Rattle.algebra.specs.Laws.{KernelForms}
use Rattle.algebra.proofs.Degrees.{divides_both, divides_decides}

-- division is decided
pub cases_divides : (a b : Powers) → Divides a b ⊎ (Divides a b → ⊥)
cases_divides a b =
    ⊎_elim (λ t. inl ((divides_decides a b).0 t)) (λ t. inr (not_from_Decides (divides_test a b) (divides_decides a b) t)) (cases_Bool (divides_test a b))

module _ (rows : ℕ) (cube_at : ℕ → Powers) (c : Powers) (l : ℕ) where
  abbrev Without : ℕ → Type 0
  Without k = Uses rows cube_at c k × (quotient (cube_at k) c l ≡ 0)

  abbrev With : ℕ → Type 0
  With k = Uses rows cube_at c k → 1 ≤ quotient (cube_at k) c l

  one_row : (k : ℕ) → k < rows → Without k ⊎ With k
  one_row k h =
      ⊎_elim
      (λ d. ⊎_elim (λ e. inl ((h, d), e)) (λ n. inr (λ u. omega arith)) (cases_eq (quotient (cube_at k) c l) 0))
      (λ n. inr (λ u. absurd (n u.1)))
      (cases_divides c (cube_at k))

  -- among the rows below n one is used and is without the letter l, or all used ones have it
  pub search_rows : (n : ℕ) → n ≤ rows → ((k : ℕ) × Uses rows cube_at c k × (quotient (cube_at k) c l ≡ 0)) ⊎ ((k : ℕ) → k < n → Uses rows cube_at c k → 1 ≤ quotient (cube_at k) c l)
  search_rows zero h = inr (λ k m. absurd (omega arith))
  search_rows (suc n) h =
      ⊎_elim inl
      (λ below. ⊎_elim
      (λ w. inl (n, w.0, w.1))
      (λ w. inr (λ k m. ⊎_elim (λ e. subst With (sym e) w) (λ e. below k (omega arith)) (cases_eq k n)))
      (one_row n (omega arith)))
      (search_rows n (omega arith))

pub free_negated : (rows : ℕ) (cube_at : ℕ → Powers) (c : Powers) → Free rows cube_at c → NoCommonLetter rows cube_at c
free_negated rows cube_at c free l h all = let r = free l h in omega (arith, all r.0 r.1, r.2)

pub free_found : (rows : ℕ) (cube_at : ℕ → Powers) (c : Powers) → NoCommonLetter rows cube_at c → Free rows cube_at c
free_found rows cube_at c none l h =
    ⊎_elim (λ r. r) (λ all. absurd (none l h (λ k u. all k u.0 u))) (search_rows rows cube_at c l rows (omega arith))

pub kernel_forms : KernelForms
kernel_forms rows cube_at c = (free_negated rows cube_at c, free_found rows cube_at c)

-- cubes with the same powers are co-kernels alike
pub uses_same : (rows : ℕ) (cube_at : ℕ → Powers) (c d : Powers) → Same c d → (k : ℕ) → Uses rows cube_at c k → Uses rows cube_at d k
uses_same rows cube_at c d s k u = (u.0, λ l h. omega (arith, s l h, u.1 l h))

pub kernel_same : (rows : ℕ) (cube_at : ℕ → Powers) (c d : Powers) → Same c d → KernelAt rows cube_at c → KernelAt rows cube_at d
kernel_same rows cube_at c d s x = record {
  two = let t = x.two in (t.0, t.1, t.2, uses_same rows cube_at c d s t.0 t.3, uses_same rows cube_at c d s t.1 t.4);
  free = λ l h. let f = x.free l h in (f.0, uses_same rows cube_at c d s f.0 f.1, omega (arith, s l h, f.2));
}

-- rows with the same powers have the same kernels
module _ (rows : ℕ) (cube_at cube_at' : ℕ → Powers) (c : Powers) (s : (k : ℕ) → k < rows → Same (cube_at k) (cube_at' k)) where
  pub uses_rows : (k : ℕ) → Uses rows cube_at c k → Uses rows cube_at' c k
  uses_rows k u = (u.0, λ l h. omega (arith, s k u.0 l h, u.1 l h))

  pub kernel_rows : KernelAt rows cube_at c → KernelAt rows cube_at' c
  kernel_rows x = record {
    two = let t = x.two in (t.0, t.1, t.2, uses_rows t.0 t.3, uses_rows t.1 t.4);
    free = λ l h. let f = x.free l h in (f.0, uses_rows f.0 f.1, omega (arith, s f.0 f.1.0 l h, f.2));
  }

-- a co-kernel is the greatest cube that divides its rows: one that divides them too divides it
pub kernel_greatest : (rows : ℕ) (cube_at : ℕ → Powers) (c d : Powers) → KernelAt rows cube_at c → ((k : ℕ) → Uses rows cube_at c k → Divides d (cube_at k)) → Divides d c
kernel_greatest rows cube_at c d x g l h = let f = x.free l h in omega (arith, f.2, f.1.1 l h, g f.0 f.1 l h)

-- so two co-kernels of the same rows are the same
pub kernel_by_rows : (rows : ℕ) (cube_at : ℕ → Powers) (c d : Powers) → KernelAt rows cube_at c → KernelAt rows cube_at d
    → ((k : ℕ) → Uses rows cube_at c k → Uses rows cube_at d k) → ((k : ℕ) → Uses rows cube_at d k → Uses rows cube_at c k) → Same c d
kernel_by_rows rows cube_at c d x y f g =
    divides_both c d (kernel_greatest rows cube_at d c y (λ k u. (g k u).1)) (kernel_greatest rows cube_at c d x (λ k u. (f k u).1))
