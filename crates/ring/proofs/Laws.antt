-- Laws of every commutative ring, for whoever reasons above one.
use mathlib.Core.Path.{◌≡◌, sym, ap, ◌∙◌}
use Rattle.ring.specs.Ring.{CommRing}
pub use Rattle.ring.specs.Shown.{zero_plus, plus_swap, cancel, times_zero, plus_times}

module _ {S : Type 0} (c : CommRing S) where
  pub opposite_plus_self : (x : S) → c.plus (c.opposite x) x ≡ c.zero
  opposite_plus_self x = c.plus_comm (c.opposite x) x ∙ c.plus_opposite x

  -- what adds up with x to zero is the opposite of x
  pub opposite_unique : (y x : S) → c.plus y x ≡ c.zero → y ≡ c.opposite x
  opposite_unique y x e = cancel c y (c.opposite x) x (e ∙ sym (opposite_plus_self x))

  pub opposite_opposite : (x : S) → c.opposite (c.opposite x) ≡ x
  opposite_opposite x = sym (opposite_unique x (c.opposite x) (c.plus_opposite x))

  pub opposite_zero : c.opposite c.zero ≡ c.zero
  opposite_zero = sym (opposite_unique c.zero c.zero (c.plus_zero c.zero))

  pub times_opposite : (x y : S) → c.times x (c.opposite y) ≡ c.opposite (c.times x y)
  times_opposite x y =
      opposite_unique (c.times x (c.opposite y)) (c.times x y)
      (sym (c.times_plus x (c.opposite y) y) ∙ ap (c.times x) (opposite_plus_self y) ∙ times_zero c x)

  pub opposite_plus : (x y : S) → c.opposite (c.plus x y) ≡ c.plus (c.opposite x) (c.opposite y)
  opposite_plus x y =
      sym (opposite_unique (c.plus (c.opposite x) (c.opposite y)) (c.plus x y)
      (plus_swap c (c.opposite x) (c.opposite y) x y
      ∙ ap (λ (t : S). c.plus t (c.plus (c.opposite y) y)) (opposite_plus_self x)
      ∙ zero_plus c (c.plus (c.opposite y) y) ∙ opposite_plus_self y))
