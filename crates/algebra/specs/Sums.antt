-- Sums over a list and over the numbers below a bound, wherever there is a sum with a neutral element:
-- the whole numbers, and a ring by its sum or by its product.
use Rattle.std.specs.Prelude.{◌≡◌, ℕ, zero, suc, ◌+◌, List, [], ◌∷◌}
use Rattle.std.proofs.Common.{add_comm, add_assoc, add-zero}
use Rattle.ring.specs.Ring.{CommRing}

pub record Adding (M : Type 0) : Type 0 where
  pub join : M → M → M
  pub neutral : M
  pub comm : (x y : M) → join x y ≡ join y x
  pub assoc : (x y z : M) → join (join x y) z ≡ join x (join y z)
  pub join_neutral : (x : M) → join x neutral ≡ x

-- whole numbers by their sum; a ring by its sum, and by its product
abbrev pub counting : Adding ℕ
counting = record { join = ◌+◌; neutral = 0; comm = add_comm; assoc = add_assoc; join_neutral = add-zero }

abbrev pub adding : {S : Type 0} → CommRing S → Adding S
adding c = record { join = c.plus; neutral = c.zero; comm = c.plus_comm; assoc = c.plus_assoc; join_neutral = c.plus_zero }

abbrev pub multiplying : {S : Type 0} → CommRing S → Adding S
multiplying c = record { join = c.times; neutral = c.one; comm = c.times_comm; assoc = c.times_assoc; join_neutral = c.times_one }

-- of f over a list
abbrev pub total : {M X : Type 0} → Adding M → (X → M) → List X → M
total a f [] = a.neutral
total a f (x ∷ xs) = a.join (f x) (total a f xs)

-- of f over the numbers below n
unfoldable pub up_to : {M : Type 0} → Adding M → ℕ → (ℕ → M) → M
up_to a zero f = a.neutral
up_to a (suc n) f = a.join (up_to a n f) (f n)

-- of x with itself, n times
abbrev pub repeated : {M : Type 0} → Adding M → M → ℕ → M
repeated a x zero = a.neutral
repeated a x (suc n) = a.join x (repeated a x n)
