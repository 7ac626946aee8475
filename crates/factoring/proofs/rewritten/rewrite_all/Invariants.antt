use Rattle.std.proofs.Common.{◌≡◌, ℕ, ◌<◌, [], map, length, get_or}
use Rattle.std.specs.List.{AllZip}
use Rattle.algebra.specs.Rows.{Alike}
use Rattle.cubes.specs.Expressions.{rows_of}
use Rattle.cubes.specs.Powers.{power}
use Rattle.cubes.specs.Rows.{as_rows, minus}
use Rattle.rewriting.specs.Factor.{taken_in}
use Rattle.table.specs.Of.{rows_at}
use Rattle.factoring.specs.Rewrites.{anew}
use Rattle.factoring.specs.Takens.{as_takens}
use Rattle.factoring.proofs.rewritten.rewrite_all.Given as goal

abbrev pub invariant-loop-e : goal.invariant-loop-e
invariant-loop-e l =
    (length l.expressions ≡ 32)
    × ((k : ℕ) → k < l.e → AllZip Alike (anew (minus l.part.sign) (power l.part.cube) (taken_in k (as_takens l.taken)) (as_rows (rows_at l.table k))) (as_rows (get_or (map rows_of l.expressions) k [])))
