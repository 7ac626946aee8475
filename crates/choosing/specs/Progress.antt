-- The search while it runs: what one set saves, and the best so far.
use Rattle.std.specs.Prelude.{◌≡◌, ℕ, ◌+◌, ◌*◌, ◌<◌, ◌≤◌, List, length, Some, None, Option}
use Rattle.choosing.specs.declared.card.Card.{Card}
use Rattle.choosing.specs.declared.choice.Choice.{Choice}
use Rattle.choosing.specs.declared.column.Column.{Column}
use Rattle.choosing.specs.Best.{Candidate, Earlier, Tells, value}
use Rattle.choosing.specs.Savings.{saved_muls, saved_adds}
use Rattle.choosing.specs.Taken.{taken, none}

-- the choice tells what the set saves among the kernels xs
pub record Weighed (xs : List Card) (set : List Column) (x : Choice) : Type 0 where
  pub rows : x.rows ≡ length (taken set none xs)
  pub columns : x.columns ≡ length set
  pub multiplications : x.multiplications ≡ saved_muls set (taken set none xs)
  pub additions : x.additions ≡ saved_adds set (taken set none xs)

-- what a choice is worth at the weight w
abbrev pub worth_of : ℕ → Choice → ℕ
worth_of w x = w * x.multiplications + x.additions

-- what has been reached so far, 0 where there is nothing yet
abbrev pub least : ℕ → Option Choice → ℕ
least w None = 0
least w (Some x) = worth_of w x

-- x is the best of those met before (p, s)
pub record Leads (w : ℕ) (xs : List Card) (p s : ℕ) (x : Choice) : Type 0 where
  pub tells : Tells xs x
  pub gains : 0 < value w xs x.kernel x.set
  pub met : Earlier x.kernel x.set p s
  pub most : (q t : ℕ) → Candidate xs q t → Earlier q t p s → value w xs q t ≤ value w xs x.kernel x.set
  pub first : (q t : ℕ) → Candidate xs q t → Earlier q t x.kernel x.set → value w xs q t < value w xs x.kernel x.set

-- the best so far; where there is none, nothing met before (p, s) saves anything
abbrev pub SoFar : ℕ → List Card → ℕ → ℕ → Option Choice → Type 0
SoFar w xs p s None = (q t : ℕ) → Candidate xs q t → Earlier q t p s → value w xs q t ≡ 0
SoFar w xs p s (Some x) = Leads w xs p s x
