-- Which kernels are taken for a set of columns.
use Rattle.std.specs.Prelude.{ℕ, Bool, false, cond, not, ◌||◌, List, [], ◌∷◌, Some, None, Option, ◌==◌, slice_index_or}
use Rattle.std.specs.List.{list_all}
use Rattle.choosing.specs.declared.card.Card.{Card}
use Rattle.choosing.specs.declared.column.Column.{Column}
use Rattle.choosing.specs.declared.covered.Covered.{Covered}
use Rattle.few.specs.Listed.{listed}

-- row q is covered
abbrev pub covers : Covered → ℕ → Bool
covers x q = slice_index_or x.marks q false

-- the row behind the column n, if the kernel has it
abbrev pub row_of : ℕ → List Column → Option ℕ
row_of n [] = None
row_of n (c ∷ cs) = cond (c.name == n) (Some c.row) (row_of n cs)

-- the column is there, and the row behind it is not covered
abbrev pub clear : (ℕ → Bool) → Option ℕ → Bool
clear over None = false
clear over (Some r) = not (over r)

-- the kernel with the columns xs has every column of the set, and no row behind them is covered
abbrev pub fits : (ℕ → Bool) → List Column → List Column → Bool
fits over xs set = list_all (λ c. clear over (row_of c.name xs)) set

-- covered, and the row as well
abbrev pub with_row : (ℕ → Bool) → Option ℕ → ℕ → Bool
with_row over None = over
with_row over (Some r) = λ q. (q == r) || over q

-- covered, and the rows behind the columns of the set as well
abbrev pub cover : (ℕ → Bool) → List Column → List Column → ℕ → Bool
cover over xs [] = over
cover over xs (c ∷ cs) = cover (with_row over (row_of c.name xs)) xs cs

-- the kernels taken for the set, from the head of the list on
abbrev pub taken : List Column → (ℕ → Bool) → List Card → List Card
taken set over [] = []
taken set over (x ∷ xs) =
    cond (fits over (listed x.columns) set) (x ∷ taken set (cover over (listed x.columns) set) xs) (taken set over xs)

-- no row is covered
abbrev pub none : ℕ → Bool
none q = false
