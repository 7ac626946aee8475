use Rattle.std.proofs.Common.{ℕ, ◌<◌, List, length, arith, rules}
use Rattle.std.specs.List.{AllZip}
use Rattle.std.proofs.lemmas.List.{length-set}
use Rattle.algebra.specs.Rows.{Alike}
use Rattle.cubes.specs.Expressions.{rows_of}
use Rattle.cubes.specs.Powers.{power}
use Rattle.cubes.specs.Rows.{as_rows, minus}
use Rattle.cubes.specs.declared.row.Row.{Row}
use Rattle.rewriting.specs.Factor.{taken_in}
use Rattle.table.specs.Of.{rows_at}
use Rattle.factoring.specs.Rewrites.{anew}
use Rattle.factoring.specs.Takens.{as_takens}
use Rattle.factoring.proofs.Wholes.{written_more}
use Rattle.factoring.proofs.rewritten.rewrite_all.Goals as goal

pub loop-e-preserved : goal.loop-e-preserved
loop-e-preserved c =
    let P : ℕ → List Row → Type 0
    = λ k xs. AllZip Alike (anew (minus c.args.part.sign) (power c.args.part.cube) (taken_in k (as_takens c.args.taken.now)) (as_rows (rows_at c.args.table.now k))) (as_rows xs) in
    let h : c.loop-e.e < length c.loop-e.expressions = omega (arith, c.loop-e.invariant.0, c.loop-e-test.true, c.standing-e-end.ensures, c.args.table.now.few) in
    let one : P c.loop-e.e (rows_of c.in-Some.expression) = search rules in
    (simp length-set c.loop-e.invariant.0, written_more c.loop-e.expressions c.loop-e.e c.in-Some.expression h P c.loop-e.invariant.1 one)
