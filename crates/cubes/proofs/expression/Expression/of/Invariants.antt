use Rattle.std.proofs.Common.{◌≡◌, take}
use Rattle.cubes.specs.Expressions.{rows_of}
use Rattle.cubes.proofs.expression.Expression.of.Given as goal

abbrev pub invariant-loop-row : goal.invariant-loop-row
invariant-loop-row l = rows_of l.e ≡ take l.row-index l.rows
