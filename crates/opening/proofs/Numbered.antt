-- The formulas by number, one after another.
use Rattle.std.proofs.Common.{◌≡◌, ℕ, zero, suc, ◌+◌, ◌<◌, length, get_or, refl, ap, ◌∙◌, arith}
use Rattle.rewriting.specs.Order.{count_from}

pub length_count : (n m : ℕ) → length (count_from n m) ≡ m
length_count n zero = refl
length_count n (suc m) = ap suc (length_count (suc n) m)

pub count_at : (n m k : ℕ) → k < m → get_or (count_from n m) k 0 ≡ n + k
count_at n zero k h = absurd (omega arith)
count_at n (suc m) zero h = omega arith
count_at n (suc m) (suc k) h = count_at (suc n) m k (omega arith) ∙ omega arith
