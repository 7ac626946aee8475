use Rattle.std.proofs.Common.{◌≡◌, ℕ, ◌<◌, length, get_or}
use Rattle.opening.proofs.style.beginning.first_order.Given as goal

abbrev pub invariant-loop-e : goal.invariant-loop-e
invariant-loop-e l = (length l.order ≡ 32) × ((k : ℕ) → k < l.e → get_or l.order k 0 ≡ k)
