-- How long a short list is.
use Rattle.std.proofs.Common.{ℕ, ◌≤◌, length, arith, length-take}
use Rattle.few.specs.declared.few.Few.{Few}
use Rattle.few.specs.Listed.{listed}

pub listed_within : {T : Type 0} {N : ℕ} (xs : Few T N) → length (listed xs) ≤ N
listed_within xs = omega (arith, length-take xs.len xs.items, xs.within)
