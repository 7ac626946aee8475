-- How cards are made: columns row by row, cards kernel by kernel, with more and more names.
use Rattle.std.specs.Prelude.{◌≡◌, ℕ, true, false, List, [], ◌∷◌, Some, None, Option}
use Rattle.algebra.specs.Cubes.{Powers}
use Rattle.algebra.specs.Rows.{Row, divides_test, quotient_row}
use Rattle.choosing.specs.declared.card.Card.{Card}
use Rattle.choosing.specs.declared.column.Column.{Column}
use Rattle.rewriting.specs.Styles.{Style}
use Rattle.rewriting.specs.Taking.{Kernel, found}
use Rattle.dealing.specs.Cards.{Deals, Dealt, column_of}
use Rattle.dealing.specs.Naming.{Grown}

abbrev pub one_or_none : Option Column → List Column
one_or_none None = []
one_or_none (Some x) = x ∷ []

-- the column of the row r with the place p, named; none where c does not divide r
abbrev pub IsColumn : List Row → Powers → ℕ → Row → Option Column → Type 0
IsColumn names c p r None = divides_test c r.cube ≡ false
IsColumn names c p r (Some x) = (divides_test c r.cube ≡ true) × (found names (quotient_row c r) ≡ true) × (x ≡ column_of names c p r)

pub record AddsColumn (old : List Row) (c : Powers) (p : ℕ) (r : Row) (o : Option Column) (new : List Row) : Type 0 where
  pub grown : Grown old new
  pub is : IsColumn new c p r o

-- the card of the kernel k
pub record AddsCard (old : List Row) (s : Style) (k : Kernel) (x : Card) (new : List Row) : Type 0 where
  pub grown : Grown old new
  pub dealt : Dealt new s k x

-- the cards of the kernels, under some names
pub record DealtAll (s : Style) (kernels : List Kernel) (xs : List Card) : Type 0 where
  pub names : List Row
  pub deals : Deals names s kernels xs
