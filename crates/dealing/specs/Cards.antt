-- Cards: what the choice of a column set sees of a kernel. The name of a column is the first place of a row alike among those named.
use Rattle.std.specs.Prelude.{◌≡◌, ℕ, suc, ◌*◌, true, cond, List, [], ◌∷◌}
use Rattle.std.specs.List.{AllByRecursion}
use Rattle.algebra.specs.Cubes.{Powers}
use Rattle.algebra.specs.Rows.{Row, degree, divides_test, quotient_row}
use Rattle.choosing.specs.declared.card.Card.{Card}
use Rattle.choosing.specs.declared.column.Column.{Column}
use Rattle.few.specs.Listed.{listed}
use Rattle.rewriting.specs.Choosing.{columns_in}
use Rattle.rewriting.specs.Styles.{Style}
use Rattle.rewriting.specs.Taking.{Kernel, found, spot}

-- the column of a row with the place p: the quotient by c
abbrev pub column_of : List Row → Powers → ℕ → Row → Column
column_of names c p r = record { name = spot names (quotient_row c r); row = p; degree = degree (quotient_row c r).cube }

-- the columns of the rows that c divides, where the first row has the place p
abbrev pub columns_of : List Row → Powers → ℕ → List Row → List Column
columns_of names c p [] = []
columns_of names c p (r ∷ rs) = cond (divides_test c r.cube) (column_of names c p r ∷ columns_of names c (suc p) rs) (columns_of names c (suc p) rs)

-- each row has a name
abbrev pub Named : List Row → List Row → Type 0
Named names rows = AllByRecursion (λ (r : Row). found names r ≡ true) rows

-- the card of a kernel: the co-kernel's degree, and its columns, all named; the places of rows are counted eight to an expression
pub record Dealt (names : List Row) (s : Style) (k : Kernel) (x : Card) : Type 0 where
  pub degree : x.degree ≡ degree k.co_kernel
  pub columns : listed x.columns ≡ columns_of names k.co_kernel (8 * k.expression) (s.expression k.expression)
  pub named : Named names (columns_in s k)

-- a card for each kernel, in their order
abbrev pub Deals : List Row → Style → List Kernel → List Card → Type 0
Deals names s [] [] = Unit {0}
Deals names s [] (x ∷ xs) = ⊥
Deals names s (k ∷ ks) [] = ⊥
Deals names s (k ∷ ks) (x ∷ xs) = Dealt names s k x × Deals names s ks xs
