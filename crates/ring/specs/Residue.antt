-- The whole numbers modulo m, as the numbers below m.
use Rattle.std.specs.Prelude.{ℕ, ◌+◌, ◌-◌, ◌*◌, ◌%◌, ◌<◌}
use Rattle.std.proofs.Common.{mod-lt}
use Rattle.ring.specs.Ring.{CommRing}
use Rattle.ring.specs.Shown.{residue_set, same_residue, mod_plus_comm, mod_plus_assoc, mod_plus_zero, mod_plus_opposite, mod_times_comm, mod_times_assoc, mod_times_one, mod_times_plus}

abbrev pub Residue : ℕ → Type 0
Residue m = (n : ℕ) × (n < m)

module _ (m : ℕ) (pos : 0 < m) where
  -- the residue of a number
  abbrev pub residue : ℕ → Residue m
  residue n = (n % m, mod-lt n pos)

  -- the ring of the whole numbers modulo m; each law is shown
  abbrev pub residues : CommRing (Residue m)
  residues = record {
    plus = λ x y. residue (x.0 + y.0);
    times = λ x y. residue (x.0 * y.0);
    opposite = λ x. residue (m - x.0);
    zero = residue 0;
    one = residue 1;
    is_set = residue_set m;
    plus_comm = λ x y. same_residue _ _ (mod_plus_comm m x.0 y.0);
    plus_assoc = λ x y z. same_residue _ _ (mod_plus_assoc m x.0 y.0 z.0);
    plus_zero = λ x. same_residue _ _ (mod_plus_zero m x.0 x.1);
    plus_opposite = λ x. same_residue _ _ (mod_plus_opposite m x.0 x.1);
    times_comm = λ x y. same_residue _ _ (mod_times_comm m x.0 y.0);
    times_assoc = λ x y z. same_residue _ _ (mod_times_assoc m x.0 y.0 z.0);
    times_one = λ x. same_residue _ _ (mod_times_one m x.0 x.1);
    times_plus = λ x y z. same_residue _ _ (mod_times_plus m x.0 y.0 z.0);
  }
