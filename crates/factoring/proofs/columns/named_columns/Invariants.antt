use Rattle.std.proofs.Common.{◌≤◌, length}
use Rattle.cubes.specs.Powers.{power}
use Rattle.few.specs.Listed.{listed}
use Rattle.factoring.proofs.Namings.{Onward}
use Rattle.factoring.proofs.columns.named_columns.Given as goal

abbrev pub invariant-loop-row : goal.invariant-loop-row
invariant-loop-row l =
    Onward (power l.cokernel) l.initial.number l.rows l.number l.row-index (listed l.columns)
    × (length (listed l.columns) ≤ l.row-index)
