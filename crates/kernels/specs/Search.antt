-- The search's own words: what it lists from a quotient q, already divided by d.
use Rattle.std.specs.Prelude.{◌≡◌, ℕ, ◌+◌, ◌<◌, ◌≤◌, true, false, cond, List, length, slice_index_or, is_some}
use Rattle.algebra.specs.Cubes.{letters, Powers, Same, Divides, Before}
use Rattle.cubes.specs.declared.row.Row.{Row}
use Rattle.algebra.specs.Rows.{degree}
use Rattle.algebra.specs.Sums.{counting, up_to}
use Rattle.cubes.specs.Powers.{power}
use Rattle.cubes.specs.Rows.{most_rows, powers_at}
use Rattle.kernels.specs.declared.kernel.Kernel.{Kernel}
use Rattle.kernels.specs.declared.rest.Rest.{Rest}
use Rattle.kernels.specs.Kernels.{KernelOf, no_kernel, cokernel_at}
use Rattle.kernels.specs.Rests.{slot, row, Live}

-- c divides the row k of d times q
abbrev pub Under : Rest → Powers → Powers → ℕ → Type 0
Under q d c k = Live q k × ((l : ℕ) → l < letters → c l ≤ row q k l + d l)

-- c is a co-kernel of d times q
pub record IsKernel (q : Rest) (d c : Powers) : Type 0 where
  pub two : (k : ℕ) × (m : ℕ) × (k < m) × Under q d c k × Under q d c m
  pub free : (l : ℕ) → l < letters → (k : ℕ) × Under q d c k × (row q k l + d l ≡ c l)

-- c has the powers of d at the letters before i
abbrev pub Agrees : ℕ → Powers → Powers → Type 0
Agrees i d c = (l : ℕ) → l < i → c l ≡ d l

-- x is a kernel of d times q, of the expression n: its co-kernel, and the rows that this divides (the like of `Names`, over what is left of
-- an expression: a reader of the list need not know of that)
pub record Entry (n : ℕ) (q : Rest) (d : Powers) (i : ℕ) (x : Kernel) : Type 0 where
  pub number : x.expression ≡ n
  pub kernel : IsKernel q d (power x.cokernel)
  pub above : Divides d (power x.cokernel)
  pub agrees : Agrees i d (power x.cokernel)
  pub rows_in : (k : ℕ) → k < most_rows → slice_index_or x.rows k false ≡ true → Under q d (power x.cokernel) k
  pub rows_all : (k : ℕ) → Under q d (power x.cokernel) k → slice_index_or x.rows k false ≡ true

-- the kernels whose co-kernel is a multiple of d with its powers before the letter i: each once, in order
pub record Kernels (n : ℕ) (q : Rest) (d : Powers) (i : ℕ) (xs : List Kernel) : Type 0 where
  pub rising : (a b : ℕ) → a < b → b < length xs → Before (cokernel_at xs a) (cokernel_at xs b)
  pub sound : (a : ℕ) → a < length xs → Entry n q d i (slice_index_or xs a no_kernel)
  pub all : (c : Powers) → IsKernel q d c → Divides d c → Agrees i d c → (a : ℕ) × (a < length xs) × Same (cokernel_at xs a) c

-- the powers of the rows times d are bytes
abbrev pub Small : Rest → Powers → Type 0
Small q d = (k : ℕ) → Live q k → (l : ℕ) → l < letters → row q k l + d l < 256

-- the letter j leads from (q, d) to (r, c)
pub record Leads (q : Rest) (d : Powers) (j : ℕ) (r : Rest) (c : Powers) : Type 0 where
  pub rows : (k : ℕ) → Live r k → Live q k × ((l : ℕ) → l < letters → row r k l + c l ≡ row q k l + d l)
  pub every : (k : ℕ) → Live q k → 0 < row q k j → Live r k
  pub above : Divides d c
  pub more : d j < c j
  pub before : Agrees j d c
  pub own : IsKernel r c c

-- no kernel has d's powers before the letter j and more of j
abbrev pub Barren : Rest → Powers → ℕ → Type 0
Barren q d j = (c : Powers) → IsKernel q d c → Divides d c → Agrees j d c → d j < c j → ⊥

-- the total degree of the rows that are left
abbrev pub total : Rest → ℕ
total q = up_to counting most_rows (λ k. cond (is_some (slot q k)) (degree (row q k)) 0)

-- ---- the beginning

-- e is c times the rows of r, which are a kernel
pub record Begins (e : List Row) (r : Rest) (c : Powers) : Type 0 where
  pub rows : (k : ℕ) → Live r k → (k < length e) × ((l : ℕ) → l < letters → row r k l + c l ≡ powers_at e k l)
  pub every : (k : ℕ) → k < length e → Live r k
  pub small : (k : ℕ) → k < length e → (l : ℕ) → l < letters → powers_at e k l < 256
  pub own : IsKernel r c c

-- e has no kernel
abbrev pub Bare : List Row → Type 0
Bare e = (c : Powers) → KernelOf e c → ⊥
