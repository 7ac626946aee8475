use Rattle.std.proofs.Common.{vec_items}
use Rattle.cubes.specs.Powers.{power}
use Rattle.cubes.specs.Rows.{as_rows, minus}
use Rattle.factoring.proofs.Rests.{Appending}
use Rattle.factoring.proofs.rewritten.with_products.Given as goal

abbrev pub invariant-loop-t : goal.invariant-loop-t
invariant-loop-t l = Appending (minus l.fn.part.sign) (power l.fn.part.cube) l.e l.taken (as_rows (vec_items l.initial.rows)) l.t-index (vec_items l.rows)
