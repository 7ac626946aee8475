use Rattle.std.proofs.Common.{◌≡◌, ◌++◌, vec_items}
use Rattle.cubes.specs.Rows.{as_rows}
use Rattle.rewriting.specs.Factor.{covered, has, taken_in, without}
use Rattle.factoring.specs.Takens.{as_takens}
use Rattle.factoring.proofs.Rests.{still}
use Rattle.factoring.proofs.rewritten.rows_left.Given as goal

abbrev pub invariant-loop-k : goal.invariant-loop-k
invariant-loop-k l =
    as_rows (vec_items l.rest) ++ still (has (covered (taken_in l.e (as_takens l.taken)))) l.rows l.k
    ≡ without (has (covered (taken_in l.e (as_takens l.taken)))) (as_rows l.rows)
