-- Marks made by a function of the index.
use Rattle.std.proofs.Common.{◌≡◌, ℕ, zero, suc, ◌+◌, ◌<◌, ◌≤◌, Bool, false, List, sym, ap, ◌∙◌, subst, ⊎_elim, arith}
use Rattle.std.specs.Array.{IsFromFnResultFrom}
use Rattle.std.proofs.lemmas.Bool.{cases_eq}
use denote.Param.Members.{Mut, Called}
use Rattle.table.specs.Adding.{source}

-- each call says what is wanted of its number
module _ {F : Type 0} (g : Mut F (ℕ × Unit {0}) Bool) (f : F) (ys : List Bool) (want : ℕ → Bool) (says : (k : ℕ) (b : Bool) (q : F) → Called g f (k, tt) b q → (q ≡ f) × (b ≡ want k)) where
  pub marked : (i n : ℕ) → IsFromFnResultFrom g f ys i n → (k : ℕ) → i ≤ k → k < i + n → source ys k ≡ want k
  marked i zero h k a l = absurd (omega arith)
  marked i (suc n) (q, y, is, called, rest) k a l =
      let said = says i y q called in
      ⊎_elim (λ (e : k ≡ i). ap (source ys) e ∙ is.1 false ∙ said.1 ∙ ap want (sym e))
      (λ ne. marked (i + 1) n (subst (λ (p : F). IsFromFnResultFrom g p ys (i + 1) n) said.0 rest) k (omega arith) (omega arith))
      (cases_eq k i)
