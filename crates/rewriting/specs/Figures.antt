-- Two small rewritings. The letters a, b, c, d are the letters 0, 1, 2, 3, and the first part's is letter 16.
use Rattle.std.specs.Prelude.{◌≡◌, true, false, cond, List, [], ◌∷◌}
use Rattle.std.specs.List.{AllZip}
use Rattle.algebra.specs.Counts.{negations}
use Rattle.algebra.specs.Cubes.{Powers, letter, product}
use Rattle.algebra.specs.Rows.{Alike, Distinct, Row}
use Rattle.rewriting.specs.Factor.{Taken, Takes, additions_saved, factored, multiplications_saved}
use Rattle.rewriting.specs.Share.{Shares, products_saved, shared}
use Rattle.rewriting.specs.Styles.{Style, equal}

abbrev pub plus : Powers → Row
plus c = record { negative = false; cube = c }

abbrev pub minus : Powers → Row
minus c = record { negative = true; cube = c }

-- a style of one or two formulas without numerals
abbrev pub formulas : List Row → List Row → Style
formulas f g = record { numerals = []; parts = 0; expression = λ e. cond (equal e 0) f (cond (equal e 1) g []) }

-- -ab - ac: the columns -b and -c are taken in the kernel of co-kernel a
abbrev pub minus_style : Style
minus_style = formulas (minus (product (letter 0) (letter 1)) ∷ minus (product (letter 0) (letter 2)) ∷ []) []

abbrev pub minus_columns : List Row
minus_columns = minus (letter 1) ∷ minus (letter 2) ∷ []

abbrev pub minus_taken : List Taken
minus_taken = record { expression = 0; co_kernel = letter 0; places = 0 ∷ 1 ∷ [] } ∷ []

-- the part is b + c, the row -a times it, still with one negation; one multiplication is saved, and no addition
pub record MinusFigure : Type 0 where
  pub takes : Takes minus_style minus_columns minus_taken
  pub apart : Distinct minus_columns
  pub row : AllZip Alike ((factored minus_style minus_columns minus_taken).expression 0) (minus (product (letter 0) (letter 16)) ∷ [])
  pub part : AllZip Alike ((factored minus_style minus_columns minus_taken).expression 16) (plus (letter 1) ∷ plus (letter 2) ∷ [])
  pub one : negations ((factored minus_style minus_columns minus_taken).expression 0) ≡ 1
  pub saved : (multiplications_saved minus_columns minus_taken ≡ 1) × (additions_saved minus_columns minus_taken ≡ 0)

-- abc and abd: share of ab saves one multiplication
abbrev pub abc_style : Style
abc_style = formulas (plus (product (letter 0) (product (letter 1) (letter 2))) ∷ []) (plus (product (letter 0) (product (letter 1) (letter 3))) ∷ [])

abbrev pub ab : Powers
ab = product (letter 0) (letter 1)

pub record ShareFigure : Type 0 where
  pub shares : Shares abc_style ab
  pub first : AllZip Alike ((shared abc_style ab).expression 0) (plus (product (letter 2) (letter 16)) ∷ [])
  pub second : AllZip Alike ((shared abc_style ab).expression 1) (plus (product (letter 3) (letter 16)) ∷ [])
  pub saved : products_saved abc_style ab ≡ 1
