-- Dual numbers over a ring: pairs of a value and a rate, where a rate times a rate counts for nothing.
use mathlib.Core.HLevel.{Σ_set}
use Rattle.ring.specs.Ring.{CommRing}
use Rattle.ring.specs.Shown.{halves, rate_comm, rate_assoc, rate_one, rate_plus}

-- the ring of pairs over the ring c; each law is shown
abbrev pub pairs : {S : Type 0} → CommRing S → CommRing (S × S)
pairs c = record {
  plus = λ x y. (c.plus x.0 y.0, c.plus x.1 y.1);
  times = λ x y. (c.times x.0 y.0, c.plus (c.times x.0 y.1) (c.times x.1 y.0));
  opposite = λ x. (c.opposite x.0, c.opposite x.1);
  zero = (c.zero, c.zero);
  one = (c.one, c.zero);
  is_set = Σ_set c.is_set (λ _. c.is_set);
  plus_comm = λ x y. halves (c.plus_comm x.0 y.0) (c.plus_comm x.1 y.1);
  plus_assoc = λ x y z. halves (c.plus_assoc x.0 y.0 z.0) (c.plus_assoc x.1 y.1 z.1);
  plus_zero = λ x. halves (c.plus_zero x.0) (c.plus_zero x.1);
  plus_opposite = λ x. halves (c.plus_opposite x.0) (c.plus_opposite x.1);
  times_comm = λ x y. halves (c.times_comm x.0 y.0) (rate_comm c x y);
  times_assoc = λ x y z. halves (c.times_assoc x.0 y.0 z.0) (rate_assoc c x y z);
  times_one = λ x. halves (c.times_one x.0) (rate_one c x);
  times_plus = λ x y z. halves (c.times_plus x.0 y.0 z.0) (rate_plus c x y z);
}
