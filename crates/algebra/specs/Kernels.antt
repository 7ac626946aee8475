-- Kernels of an expression, whose cubes are given by place: `cube_at k` for the places k below `rows`.
use Rattle.std.specs.Prelude.{◌≡◌, ℕ, ◌<◌, ◌≤◌, ◌≢◌}
use Rattle.algebra.specs.Cubes.{letters, Powers, Same, Divides, quotient}

module _ (rows : ℕ) (cube_at : ℕ → Powers) (c : Powers) where
  -- row k is one of those that c divides
  abbrev pub Uses : ℕ → Type 0
  Uses k = (k < rows) × Divides c (cube_at k)

  -- for each letter, a used row whose quotient is without it
  abbrev pub Free : Type 0
  Free = (l : ℕ) → l < letters → (k : ℕ) × Uses k × (quotient (cube_at k) c l ≡ 0)

  -- the same, negated: no letter divides the quotients of all used rows
  abbrev pub NoCommonLetter : Type 0
  NoCommonLetter = (l : ℕ) → l < letters → ((k : ℕ) → Uses k → 1 ≤ quotient (cube_at k) c l) → ⊥

  -- c is a co-kernel: two rows are used, and no letter divides all their quotients
  pub record KernelAt : Type 0 where
    pub two : (k : ℕ) × (m : ℕ) × (k < m) × Uses k × Uses m
    pub free : Free

  -- the expression of `count` rows `rest_at` is the quotient by c: row k of it is the quotient of row `place k`,
  -- and each used row has its place
  pub record QuotientIs (count : ℕ) (rest_at : ℕ → Powers) : Type 0 where
    pub place : ℕ → ℕ
    pub used : (k : ℕ) → k < count → Uses (place k)
    pub rest : (k : ℕ) → k < count → Same (rest_at k) (quotient (cube_at (place k)) c)
    pub apart : (k m : ℕ) → k < m → m < count → place k ≢ place m
    pub all : (j : ℕ) → Uses j → (k : ℕ) × (k < count) × (place k ≡ j)
