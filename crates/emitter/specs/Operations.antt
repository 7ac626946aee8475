-- How many operations the rows of an expression take.
use Rattle.std.specs.Prelude.{ℕ, ◌+◌, List}
use Rattle.algebra.specs.Counts.{additions, multiplications, negations}
use Rattle.algebra.specs.Rows.{Row}

abbrev pub operations : List Row → ℕ
operations rows = multiplications rows + (additions rows + negations rows)
