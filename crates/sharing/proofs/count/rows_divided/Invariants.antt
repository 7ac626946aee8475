use Rattle.std.proofs.Common.{◌≡◌, ◌*◌, ◌≤◌}
use Rattle.algebra.specs.Sums.{counting, up_to}
use Rattle.cubes.specs.Powers.{power}
use Rattle.rewriting.specs.Share.{divided}
use Rattle.table.specs.Of.{style_of}
use Rattle.sharing.proofs.count.rows_divided.Given as goal

abbrev pub invariant-loop-x : goal.invariant-loop-x
invariant-loop-x l = (l.n ≡ up_to counting l.x-index (λ e. divided (power l.cube) ((style_of l.table).expression e))) × (l.n ≤ 8 * l.x-index)
