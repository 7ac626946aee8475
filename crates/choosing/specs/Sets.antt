-- Sets of columns.
use Rattle.std.specs.Prelude.{ℕ, ◌/◌, ◌%◌, cond, List, [], ◌∷◌, ◌==◌}
use Rattle.choosing.specs.declared.column.Column.{Column}

-- the columns that the binary number s names: the first counts 1, the second 2, the third 4
-- (rewriting has such a word over rows; this crate knows numbered columns alone, and dealing proves that they agree)
abbrev pub chosen : ℕ → List Column → List Column
chosen s [] = []
chosen s (c ∷ cs) = cond (s % 2 == 1) (c ∷ chosen (s / 2) cs) (chosen (s / 2) cs)
