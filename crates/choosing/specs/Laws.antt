-- The kernels taken, told without the covered rows.
use Rattle.std.specs.Prelude.{◌≡◌, ℕ, ◌⊎◌, List, [], ◌∷◌, ◌++◌, Some}
use Rattle.std.specs.List.{AllByRecursion}
use Rattle.choosing.specs.declared.card.Card.{Card}
use Rattle.choosing.specs.declared.column.Column.{Column}
use Rattle.few.specs.Listed.{listed}
use Rattle.choosing.specs.Taken.{row_of, taken, none}

-- row r is behind a column of the set in the kernel with the columns xs
abbrev pub Behind : List Column → List Column → ℕ → Type 0
Behind xs [] r = ⊥
Behind xs (c ∷ cs) r = (row_of c.name xs ≡ Some r) ⊎ Behind xs cs r

-- after the kernels ys, x can be taken: it has every column, and no row behind them is behind them in a kernel taken before
pub record CanBeTaken (set : List Column) (ys : List Card) (x : Card) : Type 0 where
  pub has : AllByRecursion (λ c. (r : ℕ) × (row_of c.name (listed x.columns) ≡ Some r)) set
  pub free : (r : ℕ) → Behind (listed x.columns) set r → AllByRecursion (λ y. Behind (listed y.columns) set r → ⊥) (taken set none ys)

-- the kernels taken are taken in order, each that can be
abbrev pub TakenInOrder : Type 0
TakenInOrder =
    (set : List Column) (ys : List Card) (x : Card)
    → (CanBeTaken set ys x → taken set none (ys ++ x ∷ []) ≡ taken set none ys ++ x ∷ [])
    × ((CanBeTaken set ys x → ⊥) → taken set none (ys ++ x ∷ []) ≡ taken set none ys)
