-- What an open style holds.
use Rattle.std.specs.Prelude.{◌≡◌, ℕ, List, length, ℤ}
use Rattle.rewriting.specs.Book.{Term, accepted, written}
use Rattle.rewriting.specs.Order.{first_order}
use Rattle.rewriting.specs.Presses.{Like}
use Rattle.table.specs.declared.table.Table.{Table}
use Rattle.table.specs.Of.{order_of, style_of}

-- the noted terms written out, the formulas as the making order, and how many terms there are
pub record Holds (noted : List Term) (t : Table) (terms : ℕ) : Type 0 where
  pub like : Like (written noted) (style_of t)
  pub order : order_of t ≡ first_order
  pub count : terms ≡ length noted

-- some terms were offered, and what the book accepts of them is held
abbrev pub HoldsAccepted : Table → ℕ → Type 0
HoldsAccepted t terms = (offered : List Term) × Holds (accepted offered) t terms

-- what enter is given, as a term
abbrev pub term_of : ℕ → ℤ → List ℕ → Term
term_of f c ps = record { formula = f; coefficient = c; powers = ps }
