-- Commutative rings with one: a set, its operations and their laws.
use Rattle.std.specs.Prelude.{◌≡◌, ℕ, zero, suc}

pub record CommRing (S : Type 0) : Type 0 where
  pub plus : S → S → S
  pub times : S → S → S
  pub opposite : S → S
  pub zero : S
  pub one : S
  pub is_set : IsSet S
  pub plus_comm : (x y : S) → plus x y ≡ plus y x
  pub plus_assoc : (x y z : S) → plus (plus x y) z ≡ plus x (plus y z)
  pub plus_zero : (x : S) → plus x zero ≡ x
  pub plus_opposite : (x : S) → plus x (opposite x) ≡ zero
  pub times_comm : (x y : S) → times x y ≡ times y x
  pub times_assoc : (x y z : S) → times (times x y) z ≡ times x (times y z)
  pub times_one : (x : S) → times x one ≡ x
  pub times_plus : (x y z : S) → times x (plus y z) ≡ plus (times x y) (times x z)

-- n ones added
abbrev pub ones_sum : {S : Type 0} → CommRing S → ℕ → S
ones_sum c zero = c.zero
ones_sum c (suc n) = c.plus (ones_sum c n) c.one
