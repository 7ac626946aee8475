-- The parts of an open style, and how it takes terms.
use Rattle.std.specs.Prelude.{◌≡◌, ℕ, List, [], ◌∷◌, ◌++◌, Err, Result}
use Rattle.rewriting.specs.Book.{Term, accepted, refusal}
use Rattle.table.specs.declared.table.Table.{Table}
use Rattle.opening.specs.Holding.{Holds}
use Rattle.opening.specs.Numbers.{enter_number}
use Rattle.opening.specs.declared.refusal.EnterRefusal.{EnterRefusal}
use Rattle.opening.specs.declared.style.OpenStyle.{OpenStyle}

abbrev pub table_of : OpenStyle → Table
table_of s = s.table

abbrev pub terms_of : OpenStyle → ℕ
terms_of s = s.terms

-- the style holds the noted terms, and nothing else
abbrev pub HasNoted : List Term → OpenStyle → Type 0
HasNoted noted s = Holds noted (table_of s) (terms_of s)

-- What enter answers about the term t and makes of the style s. Whatever terms were offered before: the number is that of the
-- book, and the style then holds what the book accepts. A refusal changes nothing.
pub record Entered (s : OpenStyle) (t : Term) (r : Result (Unit {0}) EnterRefusal) (s' : OpenStyle) : Type 0 where
  pub answer : (offered : List Term) → HasNoted (accepted offered) s → enter_number r ≡ refusal (accepted offered) t
  pub held : (offered : List Term) → HasNoted (accepted offered) s → HasNoted (accepted (offered ++ t ∷ [])) s'
  pub same : (why : EnterRefusal) → r ≡ Err why → s' ≡ s
