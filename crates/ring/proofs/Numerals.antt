-- What n ones added are: in the residues and in the pairs.
use mathlib.Core.Path.{◌≡◌, refl, sym, ap, ◌∙◌}
use Prim.Native.Nat.{ℕ, zero, suc, ◌+◌, ◌%◌, ◌<◌}
use native.Mathlib.Nat.{add-mod}
use native.Mathlib.Numerals.{add-one}
use Rattle.ring.specs.Ring.{CommRing, ones_sum}
use Rattle.ring.specs.Residue.{Residue, residue, residues}
use Rattle.ring.specs.Pairs.{pairs}
use Rattle.ring.specs.Shown.{same_residue, halves}

-- the residue of n
pub ones_residue : (m : ℕ) (pos : 0 < m) (n : ℕ) → ones_sum (residues m pos) n ≡ residue m pos n
ones_residue m pos zero = refl
ones_residue m pos (suc n) =
    same_residue _ _
    (ap (λ (t : Residue m). (t.0 + 1 % m) % m) (ones_residue m pos n) ∙ sym (add-mod n 1 m) ∙ ap (λ (k : ℕ). k % m) (add-one n))

-- n ones, and the rate zero
pub ones_pair : {S : Type 0} (c : CommRing S) (n : ℕ) → ones_sum (pairs c) n ≡ (ones_sum c n, c.zero)
ones_pair c zero = refl
ones_pair {S} c (suc n) = ap (λ (t : S × S). (pairs c).plus t (pairs c).one) (ones_pair c n) ∙ halves refl (c.plus_zero c.zero)
