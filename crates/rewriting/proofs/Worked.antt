-- The figures hold.
use Rattle.std.proofs.Common.{◌≡◌, ℕ, zero, suc, ◌+◌, ◌-◌, refl, arith}
use Rattle.algebra.specs.Rows.{Alike, Distinct, Row, divides_below}
use Rattle.algebra.specs.Sums.{up_to}
use Rattle.algebra.proofs.Degrees.{same_refl}
use Rattle.rewriting.specs.Factor.{Apart, covered, taken_in}
use Rattle.rewriting.specs.Figures.{MinusFigure, ShareFigure, minus_columns, minus_taken}

same_row : (r : Row) → Alike r r
same_row r = record { sign = refl; cubes = same_refl r.cube }

minus_apart : Distinct minus_columns
minus_apart = (((λ e. omega (arith, e 1 (omega arith))), tt), (tt, tt))

once : (e : ℕ) → Apart (covered (taken_in e minus_taken))
once zero = (refl, (refl, tt))
once (suc e) = tt

pub minus_figure : MinusFigure
unfolding up_to
minus_figure = record {
  takes = record {
    two = omega arith;
    some = omega arith;
    letter_left = omega arith;
    stands = (omega arith, tt);
    behind = (((omega arith, same_row _), ((omega arith, same_row _), tt)), tt);
    once = λ e l. once e;
  };
  apart = minus_apart;
  row = (same_row _, tt);
  part = (same_row _, (same_row _, tt));
  one = refl;
  saved = (refl, refl);
}

cancel : (a b c d : ℕ) → ((a + (b + c)) - (a + b)) + d ≡ c + d
cancel a b c d = omega arith

pub share_figure : ShareFigure
unfolding up_to divides_below
share_figure = record {
  shares = record { letter_left = omega arith; high = omega arith; rows = omega arith };
  first = (record { sign = refl; cubes = λ l h. cancel _ _ _ _ }, tt);
  second = (record { sign = refl; cubes = λ l h. cancel _ _ _ _ }, tt);
  saved = refl;
}
