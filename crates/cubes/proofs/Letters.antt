-- The powers of a letter alone.
use Rattle.std.proofs.Common.{◌≡◌, ℕ, ◌<◌, cond, eqb, get_or, set, replicate, sym, refl, ◌∙◌, subst, inl, inr, get_or-set_other, get_or-set_same}
use Rattle.std.proofs.lemmas.List.{get_or-replicate}
use Rattle.std.proofs.lemmas.Bool.{cases_eq, cond-true, cond-false, eq-eqb, ne_eqb}
use Rattle.algebra.specs.Cubes.{letters, letter}

pub letter_powers : (j l : ℕ) → j < letters → l < letters → ◌≡◌ {A = ℕ} (get_or (set (replicate letters 0) j 1) l 0) (letter j l)
letter_powers j l lt h =
    elim (cases_eq l j) [
      | inl e ↦
          subst (λ i. ◌≡◌ {A = ℕ} (get_or (set (replicate letters 0) j 1) i 0) (cond (eqb i j) 1 0)) (sym e)
          (get_or-set_same (replicate letters 0) j 1 0 lt ∙ sym (cond-true (eqb j j) 1 0 (eq-eqb j j refl)))
      | inr ne ↦
          get_or-set_other (replicate letters 0) j l 1 0 ne ∙ get_or-replicate letters l 0 0 h ∙ sym (cond-false (eqb l j) 1 0 (ne_eqb l j ne))
    ]
