use Rattle.std.proofs.Common.{◌*◌, ◌^◌, ◌≤◌}
use Rattle.table.specs.Counting.{CountedBelow}
use Rattle.table.proofs.table.Table.counts.Given as goal

abbrev pub invariant-loop-x : goal.invariant-loop-x
invariant-loop-x l =
    CountedBelow l.self l.x-index l.sum × (l.sum.multiplications ≤ 2 ^ 32 * l.x-index) × (l.sum.additions ≤ 2 ^ 32 * l.x-index) × (l.sum.negations ≤ 2 ^ 32 * l.x-index)
