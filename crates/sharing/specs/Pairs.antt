-- Pairs of rows, what is said of them, and the best of those met so far.
use Rattle.std.specs.Prelude.{◌≡◌, ℕ, ◌<◌, ◌≤◌, Some, None, Option}
use Rattle.algebra.specs.Cubes.{Same}
use Rattle.cubes.specs.Powers.{power}
use Rattle.rewriting.specs.Share.{divided, products_saved}
use Rattle.rewriting.specs.Sharing.{BestPair, MetBefore, Sharing, Spot, pair_saving, shared_cube}
use Rattle.rewriting.specs.Styles.{Style, over}
use Rattle.sharing.specs.declared.pair.Pair.{Pair}
use Rattle.sharing.specs.declared.pair.Place.{Place}

abbrev pub at : ℕ → ℕ → Spot
at e k = record { expression = e; row = k }

abbrev pub spot : Place → Spot
spot x = at x.expression x.row

-- x says of its two rows what is so: their greatest common cube, how many rows that divides, and what it saves
pub record Told (s : Style) (x : Pair) : Type 0 where
  pub cube : Same (power x.cube) (shared_cube s (spot x.first) (spot x.second))
  pub rows : x.rows ≡ over (divided (power x.cube)) s
  pub saved : x.saved ≡ products_saved s (power x.cube)

-- its two rows are the best pair
pub record Best (s : Style) (x : Pair) : Type 0 where
  pub told : Told s x
  pub pair : BestPair s (spot x.first) (spot x.second)

-- x is the pair of these two rows, which share a cube
pub record Weighed (s : Style) (first second : Place) (x : Pair) : Type 0 where
  pub told : Told s x
  pub pair : Sharing s (spot first) (spot second)
  pub is_first : x.first ≡ first
  pub is_second : x.second ≡ second

-- x is the best of the pairs met before (first, second)
pub record Leads (s : Style) (first second : Spot) (x : Pair) : Type 0 where
  pub told : Told s x
  pub pair : Sharing s (spot x.first) (spot x.second)
  pub most : (u v : Spot) → Sharing s u v → MetBefore u v first second → pair_saving s u v ≤ x.saved
  pub earliest : (u v : Spot) → Sharing s u v → MetBefore u v (spot x.first) (spot x.second) → pair_saving s u v < x.saved

abbrev pub KnownSoFar : Style → Spot → Spot → Option Pair → Type 0
KnownSoFar s first second None = (u v : Spot) → Sharing s u v → MetBefore u v first second → ⊥
KnownSoFar s first second (Some x) = Leads s first second x

-- r is the better of the two: the next pair if that saves more, or if there is no other
abbrev pub Better : Option Pair → Pair → Pair → Type 0
Better None next r = r ≡ next
Better (Some x) next r = (x.saved < next.saved → r ≡ next) × (next.saved ≤ x.saved → r ≡ x)
