-- Laws that are shown, for the records that have them as fields. They follow from the definitions,
-- so there is nothing in them to believe.
use Rattle.std.specs.Prelude.{◌≡◌, ℕ, suc, ◌+◌, ◌-◌, ◌*◌, ◌/◌, ◌%◌, ◌<◌}
use Rattle.std.proofs.Common.{sym, ap, ◌∙◌, mod-eq_of_lt, mul_comm, mul_assoc, mul-add, add-mul, mul-one, add_comm, add_assoc, add-zero, arith}
use mathlib.Core.HLevel.{Σ_prop_path, Σ_set, hedberg, prop→set}
use Rattle.std.proofs.Math.Nat.{zero-mod, add-mod, mod-add-mod, add-mod-mod, mod_self, mod-add-div, add-mul-mod_self_left}
use Rattle.std.proofs.Math.Bridge.{le_prop}
use Rattle.std.proofs.Math.Decide.{ℕ_discrete}
use Rattle.ring.specs.Ring.{CommRing}

-- Laws that are shown: of any commutative ring.
module _ {S : Type 0} (c : CommRing S) where
  pub zero_plus : (x : S) → c.plus c.zero x ≡ x
  zero_plus x = c.plus_comm c.zero x ∙ c.plus_zero x

  pub plus_swap : (x y z w : S) → c.plus (c.plus x y) (c.plus z w) ≡ c.plus (c.plus x z) (c.plus y w)
  plus_swap x y z w =
      c.plus_assoc x y (c.plus z w)
      ∙ ap (c.plus x) (sym (c.plus_assoc y z w) ∙ ap (λ (t : S). c.plus t w) (c.plus_comm y z) ∙ c.plus_assoc z y w)
      ∙ sym (c.plus_assoc x z (c.plus y w))

  pub cancel : (x y z : S) → c.plus x z ≡ c.plus y z → x ≡ y
  cancel x y z e = sym (back x) ∙ ap (λ (t : S). c.plus t (c.opposite z)) e ∙ back y
    where
      back : (t : S) → c.plus (c.plus t z) (c.opposite z) ≡ t
      back t = c.plus_assoc t z (c.opposite z) ∙ ap (c.plus t) (c.plus_opposite z) ∙ c.plus_zero t

  pub times_zero : (x : S) → c.times x c.zero ≡ c.zero
  times_zero x =
      cancel _ _ (c.times x c.zero)
      (sym (c.times_plus x c.zero c.zero) ∙ ap (c.times x) (c.plus_zero c.zero) ∙ sym (zero_plus (c.times x c.zero)))

  pub plus_times : (x y z : S) → c.times (c.plus x y) z ≡ c.plus (c.times x z) (c.times y z)
  plus_times x y z =
      c.times_comm (c.plus x y) z ∙ c.times_plus z x y
      ∙ ap (λ (t : S). c.plus t (c.times z y)) (c.times_comm z x) ∙ ap (c.plus (c.times x z)) (c.times_comm z y)

-- Laws that are shown: of the rate of a product of two pairs.
pub halves : {S : Type 0} {x y : S × S} → x.0 ≡ y.0 → x.1 ≡ y.1 → x ≡ y
halves p q = λ i. (p i, q i)

module _ {S : Type 0} (c : CommRing S) where
  abbrev rate : S × S → S × S → S
  rate x y = c.plus (c.times x.0 y.1) (c.times x.1 y.0)

  pub rate_comm : (x y : S × S) → rate x y ≡ rate y x
  rate_comm x y =
      c.plus_comm _ _
      ∙ ap (λ (t : S). c.plus t (c.times x.0 y.1)) (c.times_comm x.1 y.0)
      ∙ ap (c.plus (c.times y.0 x.1)) (c.times_comm x.0 y.1)

  pub rate_assoc : (x y z : S × S) → rate (c.times x.0 y.0, rate x y) z ≡ rate x (c.times y.0 z.0, rate y z)
  rate_assoc x y z =
      ap (c.plus _) (plus_times c (c.times x.0 y.1) (c.times x.1 y.0) z.0)
      ∙ sym (c.plus_assoc _ _ _)
      ∙ ap (c.plus _) (c.times_assoc x.1 y.0 z.0)
      ∙ ap (λ (t : S). c.plus t (c.times x.1 (c.times y.0 z.0)))
      (ap (c.plus _) (c.times_assoc x.0 y.1 z.0)
      ∙ ap (λ (t : S). c.plus t (c.times x.0 (c.times y.1 z.0))) (c.times_assoc x.0 y.0 z.1)
      ∙ sym (c.times_plus x.0 (c.times y.0 z.1) (c.times y.1 z.0)))

  pub rate_one : (x : S × S) → rate x (c.one, c.zero) ≡ x.1
  rate_one x =
      ap (λ (t : S). c.plus t (c.times x.1 c.one)) (times_zero c x.0) ∙ zero_plus c _ ∙ c.times_one x.1

  pub rate_plus : (x y z : S × S) → rate x (c.plus y.0 z.0, c.plus y.1 z.1) ≡ c.plus (rate x y) (rate x z)
  rate_plus x y z =
      ap (λ (t : S). c.plus t (c.times x.1 (c.plus y.0 z.0))) (c.times_plus x.0 y.1 z.1)
      ∙ ap (c.plus _) (c.times_plus x.1 y.0 z.0)
      ∙ plus_swap c (c.times x.0 y.1) (c.times x.0 z.1) (c.times x.1 y.0) (c.times x.1 z.0)

-- Laws that are shown: of the numbers below m.
pub same_residue : {m : ℕ} (x y : (n : ℕ) × (n < m)) → x.0 ≡ y.0 → x ≡ y
same_residue {m} x y e = Σ_prop_path (λ (k : ℕ). le_prop {n = suc k} {m = m}) {u = x} {v = y} e

pub residue_set : (m : ℕ) → IsSet ((n : ℕ) × (n < m))
residue_set m = Σ_set (hedberg ℕ_discrete) (λ k. prop→set (le_prop {n = suc k} {m = m}))

-- Laws that are shown: of remainders.
module _ (m : ℕ) where
  pub mod_times : (a b : ℕ) → (a % m * b) % m ≡ (a * b) % m
  mod_times a b =
      let e : a * b ≡ a % m * b + m * (a / m * b) = ap (λ (n : ℕ). n * b) (sym (mod-add-div a m)) ∙ add-mul (a % m) (m * (a / m)) b ∙ ap (λ (n : ℕ). a % m * b + n) (mul_assoc m (a / m) b) in
      sym (ap (λ (n : ℕ). n % m) e ∙ add-mul-mod_self_left (a % m * b) m (a / m * b))

  pub times_mod : (a b : ℕ) → (a * (b % m)) % m ≡ (a * b) % m
  times_mod a b = ap (λ (n : ℕ). n % m) (mul_comm a (b % m)) ∙ mod_times b a ∙ ap (λ (n : ℕ). n % m) (mul_comm b a)

  pub mod_plus_comm : (a b : ℕ) → (a + b) % m ≡ (b + a) % m
  mod_plus_comm a b = ap (λ (n : ℕ). n % m) (add_comm a b)

  pub mod_plus_assoc : (a b d : ℕ) → ((a + b) % m + d) % m ≡ (a + (b + d) % m) % m
  mod_plus_assoc a b d = mod-add-mod (a + b) m d ∙ ap (λ (n : ℕ). n % m) (add_assoc a b d) ∙ sym (add-mod-mod a (b + d) m)

  pub mod_plus_zero : (a : ℕ) → a < m → (a + 0 % m) % m ≡ a
  mod_plus_zero a h = add-mod-mod a 0 m ∙ ap (λ (n : ℕ). n % m) (add-zero a) ∙ mod-eq_of_lt h

  pub mod_plus_opposite : (a : ℕ) → a < m → (a + (m - a) % m) % m ≡ 0 % m
  mod_plus_opposite a h =
      let e : a + (m - a) ≡ m = omega arith in
      add-mod-mod a (m - a) m ∙ ap (λ (n : ℕ). n % m) e ∙ mod_self m ∙ sym (zero-mod m)

  pub mod_times_comm : (a b : ℕ) → (a * b) % m ≡ (b * a) % m
  mod_times_comm a b = ap (λ (n : ℕ). n % m) (mul_comm a b)

  pub mod_times_assoc : (a b d : ℕ) → ((a * b) % m * d) % m ≡ (a * ((b * d) % m)) % m
  mod_times_assoc a b d = mod_times (a * b) d ∙ ap (λ (n : ℕ). n % m) (mul_assoc a b d) ∙ sym (times_mod a (b * d))

  pub mod_times_one : (a : ℕ) → a < m → (a * (1 % m)) % m ≡ a
  mod_times_one a h = times_mod a 1 ∙ ap (λ (n : ℕ). n % m) (mul-one a) ∙ mod-eq_of_lt h

  pub mod_times_plus : (a b d : ℕ) → (a * ((b + d) % m)) % m ≡ ((a * b) % m + (a * d) % m) % m
  mod_times_plus a b d = times_mod a (b + d) ∙ ap (λ (n : ℕ). n % m) (mul-add a b d) ∙ add-mod (a * b) (a * d) m
