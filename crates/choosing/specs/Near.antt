-- Kernels that share columns.
use Rattle.std.specs.Prelude.{ℕ, Bool, List, is_some, count_by, nat_le}
use Rattle.choosing.specs.declared.card.Card.{Card}
use Rattle.choosing.specs.declared.column.Column.{Column}
use Rattle.few.specs.Listed.{listed}
use Rattle.choosing.specs.Taken.{row_of}

-- the kernel with the columns xs has the column c
abbrev pub has : List Column → Column → Bool
has xs c = is_some (row_of c.name xs)

-- how many of the columns cs it has
abbrev pub shared : List Column → List Column → ℕ
shared xs cs = count_by (has xs) cs

-- it has two of them or more
abbrev pub near_to : List Column → Card → Bool
near_to cs x = nat_le 2 (shared (listed x.columns) cs)
