-- What cubes, rows and expressions are worth in a commutative ring, where letter l has the value `value l`.
use Rattle.std.specs.Prelude.{ℕ, cond, List}
use Rattle.ring.specs.Ring.{CommRing}
use Rattle.algebra.specs.Cubes.{letters, Powers}
use Rattle.algebra.specs.Sums.{adding, multiplying, total, up_to, repeated}
use Rattle.algebra.specs.Rows.{Row}

module _ {S : Type 0} (c : CommRing S) (value : ℕ → S) where
  -- the product over the letters of the letter's value, as often as its power says
  abbrev pub cube_worth : Powers → S
  cube_worth a = up_to (multiplying c) letters (λ l. repeated (multiplying c) (value l) (a l))

  abbrev pub row_worth : Row → S
  row_worth r = cond r.negative (c.opposite (cube_worth r.cube)) (cube_worth r.cube)

  abbrev pub worth : List Row → S
  worth e = total (adding c) row_worth e
