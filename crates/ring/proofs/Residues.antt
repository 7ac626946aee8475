-- The residue of a number, against the operations of the residues: from plain numbers, and back to them.
use mathlib.Core.Path.{◌≡◌, sym, ap, ◌∙◌}
use Prim.Native.Nat.{ℕ, ◌+◌, ◌-◌, ◌*◌, ◌%◌, ◌<◌}
use native.Mathlib.Nat.{mod-eq_of_lt, mod-mod, add-mod}
use Rattle.ring.specs.Ring.{ones_sum}
use Rattle.ring.specs.Residue.{Residue, residue, residues}
use Rattle.ring.specs.Shown.{same_residue, mod_times, times_mod}
use Rattle.ring.proofs.Numerals.{ones_residue}

-- a product of remainders leaves what the product leaves
pub mod_times_mod : (m a b : ℕ) → (a % m * (b % m)) % m ≡ (a * b) % m
mod_times_mod m a b = times_mod m (a % m) b ∙ mod_times m a b

module _ (m : ℕ) (pos : 0 < m) where
  pub residue_plus : (a b : ℕ) → residue m pos ((a + b) % m) ≡ (residues m pos).plus (residue m pos a) (residue m pos b)
  residue_plus a b = same_residue _ _ (mod-mod (a + b) m ∙ add-mod a b m)

  pub residue_times : (a b : ℕ) → residue m pos ((a * b) % m) ≡ (residues m pos).times (residue m pos a) (residue m pos b)
  residue_times a b = same_residue _ _ (mod-mod (a * b) m ∙ sym (mod_times_mod m a b))

  pub residue_opposite : (a : ℕ) → a < m → residue m pos ((m - a) % m) ≡ (residues m pos).opposite (residue m pos a)
  residue_opposite a h = same_residue _ _ (mod-mod (m - a) m ∙ ap (λ (n : ℕ). (m - n) % m) (sym (mod-eq_of_lt h)))

  -- a number below m is what its residue is
  pub number_is : (a : ℕ) {t : Residue m} → a < m → residue m pos a ≡ t → a ≡ t.0
  number_is a h e = sym (mod-eq_of_lt h) ∙ ap (λ (s : Residue m). s.0) e

  pub numeral_number : (a n : ℕ) → a < m → residue m pos a ≡ ones_sum (residues m pos) n → a ≡ n % m
  numeral_number a n h e = number_is a h (e ∙ ones_residue m pos n)

  pub plus_number : (a x y : ℕ) → a < m → residue m pos a ≡ (residues m pos).plus (residue m pos x) (residue m pos y) → a ≡ (x + y) % m
  plus_number a x y h e = number_is a h e ∙ sym (add-mod x y m)

  pub times_number : (a x y : ℕ) → a < m → residue m pos a ≡ (residues m pos).times (residue m pos x) (residue m pos y) → a ≡ (x * y) % m
  times_number a x y h e = number_is a h e ∙ mod_times_mod m x y

  pub opposite_number : (a x : ℕ) → a < m → x < m → residue m pos a ≡ (residues m pos).opposite (residue m pos x) → a ≡ (m - x) % m
  opposite_number a x h k e = number_is a h e ∙ ap (λ (n : ℕ). (m - n) % m) (mod-eq_of_lt k)

  -- the rate of a product of pairs
  pub rate_number : (a v w p q : ℕ) → a < m → residue m pos a ≡ (residues m pos).plus ((residues m pos).times (residue m pos v) (residue m pos q)) ((residues m pos).times (residue m pos w) (residue m pos p)) → a ≡ (v * q + w * p) % m
  rate_number a v w p q h e =
      number_is a h e
      ∙ ap (λ (n : ℕ). (n + (w % m * (p % m)) % m) % m) (mod_times_mod m v q)
      ∙ ap (λ (n : ℕ). ((v * q) % m + n) % m) (mod_times_mod m w p)
      ∙ sym (add-mod (v * q) (w * p) m)
