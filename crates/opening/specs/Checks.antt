-- What the term alone decides.
use Rattle.std.specs.Prelude.{◌≡◌, ℕ, ◌≤◌, List, length}
use Rattle.algebra.specs.Sums.{counting, total}
use Rattle.rewriting.specs.Book.{Term, magnitude, refusal}
use Rattle.opening.specs.Numbers.{enter_refusal_number}
use Rattle.opening.specs.declared.refusal.EnterRefusal.{EnterRefusal}

abbrev pub power_sum : List ℕ → ℕ
power_sum ps = total counting (λ p. p) ps

-- none of the refusals 1 to 4
pub record Admissible (t : Term) : Type 0 where
  pub formula : t.formula ≤ 15
  pub some : 1 ≤ magnitude t
  pub small : magnitude t ≤ 65535
  pub eight : length t.powers ≡ 8
  pub light : power_sum t.powers ≤ 24

-- the checks are passed, with this magnitude and these powers
pub record Passes (t : Term) (m : ℕ) (ps : List ℕ) : Type 0 where
  pub admissible : Admissible t
  pub size : m ≡ magnitude t
  pub powers : ps ≡ t.powers

-- refused for this reason, whatever is noted
abbrev pub AlwaysRefused : EnterRefusal → Term → Type 0
AlwaysRefused why t = (noted : List Term) → enter_refusal_number why ≡ refusal noted t
