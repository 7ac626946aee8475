use Rattle.std.proofs.Common.{◌≡◌, ℕ, ◌-◌, ◌<◌, ◌≤◌, length, get_or}
use Rattle.algebra.specs.Cubes.{letters}
use Rattle.cubes.specs.Powers.{power}
use Rattle.cubes.proofs.cube.Cube.cut.Given as goal

abbrev pub invariant-loop-l : goal.invariant-loop-l
invariant-loop-l l = (length l.p-items ≡ letters)
    × ((k : ℕ) → k < l.l → get_or l.p-items k 0 ≡ power l.fn.self k - power l.fn.other k)
    × ((k : ℕ) → l.l ≤ k → get_or l.p-items k 0 ≡ power l.fn.self k)
    × ((k : ℕ) → k < l.l → power l.fn.self k < 256)
