-- Candidates, and the best of them.
use Rattle.std.specs.Prelude.{◌≡◌, ℕ, ◌^◌, ◌<◌, ◌≤◌, ◌⊎◌, List, [], map, length, slice_index_or}
use Rattle.choosing.specs.declared.card.Card.{Card}
use Rattle.choosing.specs.declared.choice.Choice.{Choice}
use Rattle.choosing.specs.declared.column.Column.{Column}
use Rattle.choosing.specs.Savings.{saved_muls, saved_adds, saving}
use Rattle.few.specs.Listed.{listed}
use Rattle.choosing.specs.Sets.{chosen}
use Rattle.choosing.specs.Taken.{taken, none}

-- the columns of kernel p
abbrev pub columns_at : List Card → ℕ → List Column
columns_at xs p = slice_index_or (map (λ x. listed x.columns) xs) p []

-- the set that the number s names in kernel p
abbrev pub set_at : List Card → ℕ → ℕ → List Column
set_at xs p s = chosen s (columns_at xs p)

-- s names two columns or more of kernel p
-- (this and the words below stand over numbered columns; rewriting has them over rows, and dealing proves that they agree)
pub record Candidate (xs : List Card) (p s : ℕ) : Type 0 where
  pub kernel : p < length xs
  pub number : s < 2 ^ length (columns_at xs p)
  pub two : 2 ≤ length (set_at xs p s)

-- the kernels taken for the set s of kernel p
abbrev pub taken_at : List Card → ℕ → ℕ → List Card
taken_at xs p s = taken (set_at xs p s) none xs

-- what it saves, at the weight w
abbrev pub value : ℕ → List Card → ℕ → ℕ → ℕ
value w xs p s = saving w xs (set_at xs p s)

-- (q, t) is met before (p, s): kernels in order, then sets as numbers
abbrev pub Earlier : ℕ → ℕ → ℕ → ℕ → Type 0
Earlier q t p s = (q < p) ⊎ ((q ≡ p) × (t < s))

-- (p, s) is the best: no candidate saves more, and every one met before saves less
pub record Best (w : ℕ) (xs : List Card) (p s : ℕ) : Type 0 where
  pub candidate : Candidate xs p s
  pub most : (q t : ℕ) → Candidate xs q t → value w xs q t ≤ value w xs p s
  pub first : (q t : ℕ) → Candidate xs q t → Earlier q t p s → value w xs q t < value w xs p s

-- the choice tells of its candidate: how many kernels and columns, and both savings
pub record Tells (xs : List Card) (x : Choice) : Type 0 where
  pub candidate : Candidate xs x.kernel x.set
  pub rows : x.rows ≡ length (taken_at xs x.kernel x.set)
  pub columns : x.columns ≡ length (set_at xs x.kernel x.set)
  pub multiplications : x.multiplications ≡ saved_muls (set_at xs x.kernel x.set) (taken_at xs x.kernel x.set)
  pub additions : x.additions ≡ saved_adds (set_at xs x.kernel x.set) (taken_at xs x.kernel x.set)

-- the best saves something, and the choice tells of it
pub record Chosen (w : ℕ) (xs : List Card) (x : Choice) : Type 0 where
  pub tells : Tells xs x
  pub best : Best w xs x.kernel x.set
  pub gains : 0 < value w xs x.kernel x.set

-- no candidate saves anything
abbrev pub NoGain : ℕ → List Card → Type 0
NoGain w xs = (q t : ℕ) → Candidate xs q t → value w xs q t ≡ 0
