-- Share as a rewriting.
use Rattle.std.specs.Prelude.{ℕ, ◌-◌, ◌*◌, ◌<◌, ◌≤◌, false, cond, List, [], ◌∷◌, map}
use Rattle.algebra.specs.Cubes.{Powers, letter, letters, product, quotient}
use Rattle.algebra.specs.Rows.{Row, degree, divides_test}
use Rattle.algebra.specs.Sums.{counting, total}
use Rattle.rewriting.specs.Styles.{Style, over, standing, with_part}

-- a row that the cube divides is divided once and gains the part's letter; any other stays
abbrev pub shared_row : ℕ → Powers → Row → Row
shared_row p c r = record {
  negative = r.negative;
  cube = cond (divides_test c r.cube) (product (quotient r.cube c) (letter p)) r.cube;
}

abbrev pub cube_part : Powers → List Row
cube_part c = record { negative = false; cube = c } ∷ []

abbrev pub shared : Style → Powers → Style
shared s c = with_part s (λ e. map (shared_row (standing s) c) (s.expression e)) (cube_part c)

-- how many rows of an expression the cube divides
abbrev pub divided : Powers → List Row → ℕ
divided c e = total counting (λ (r : Row). cond (divides_test c r.cube) 1 0) e

-- What share takes: a cube of degree two or more that divides two rows or more, and a letter left.
pub record Shares (s : Style) (c : Powers) : Type 0 where
  pub letter_left : standing s < letters
  pub high : 2 ≤ degree c
  pub rows : 2 ≤ over (divided c) s

abbrev pub products_saved : Style → Powers → ℕ
products_saved s c = (over (divided c) s - 1) * (degree c - 1)
