use Rattle.std.proofs.Common.{◌≡◌, ◌++◌, length, drop}
use Rattle.cubes.specs.Powers.{power}
use Rattle.cubes.specs.Rows.{as_rows}
use Rattle.rewriting.specs.Factor.{covered, taken_in}
use Rattle.rewriting.specs.Taking.{spots}
use Rattle.factoring.specs.Takens.{all_open, as_takens}
use Rattle.few.specs.Listed.{listed}
use Rattle.factoring.proofs.taking.places_behind.Given as goal

abbrev pub invariant-loop-column : goal.invariant-loop-column
invariant-loop-column l =
    (all_open (as_rows l.rows) (power l.kernel.cokernel) (covered (taken_in l.kernel.expression (as_takens l.taken))) (as_rows (drop l.column-index l.column-items))
    ≡ all_open (as_rows l.rows) (power l.kernel.cokernel) (covered (taken_in l.kernel.expression (as_takens l.taken))) (as_rows l.column-items))
    × (listed l.places ++ spots (as_rows l.rows) (power l.kernel.cokernel) (as_rows (drop l.column-index l.column-items)) ≡ spots (as_rows l.rows) (power l.kernel.cokernel) (as_rows l.column-items))
    × (length (listed l.places) ≡ l.column-index)
