use Rattle.std.proofs.Common.{◌≡◌, map, take, length}
use Rattle.cubes.specs.Rows.{as_rows}
use Rattle.few.specs.Listed.{listed}
use Rattle.rewriting.specs.Factor.{positive}
use Rattle.factoring.proofs.part.positive_rows.Given as goal

abbrev pub invariant-loop-row : goal.invariant-loop-row
invariant-loop-row l = (as_rows (listed l.rows) ≡ map positive (as_rows (take l.row-index l.row-items))) × (length (listed l.rows) ≡ l.row-index)
