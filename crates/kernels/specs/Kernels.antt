-- Kernels of an expression, and the list of them.
use Rattle.std.specs.Prelude.{◌≡◌, ℕ, ◌<◌, true, false, List, [], length, get_or, slice_index_or}
use Rattle.algebra.specs.Cubes.{Powers, Same, Before}
use Rattle.algebra.specs.Kernels.{Uses, KernelAt}
use Rattle.cubes.specs.declared.row.Row.{Row}
use Rattle.cubes.specs.Powers.{power}
use Rattle.cubes.specs.Rows.{most_rows, powers_at}
use Rattle.kernels.specs.declared.kernel.Kernel.{Kernel}
use Rattle.kernels.specs.declared.kernel.KernelRefusal.{KernelRefusal}
use Rattle.kernels.specs.declared.kernel.KernelRefusal.TheVariants.{ShortList}

-- c is a co-kernel of the rows of e
abbrev pub KernelOf : List Row → Powers → Type 0
KernelOf e c = KernelAt (length e) (powers_at e) c

-- what stands past the last kernel
abbrev pub no_kernel : Kernel
no_kernel = record { expression = 0; cokernel = record { powers = [] }; rows = [] }

-- the co-kernel at the place a of a list
abbrev pub cokernel_at : List Kernel → ℕ → Powers
cokernel_at xs a = power (get_or xs a no_kernel).cokernel

-- x is a kernel of e, the expression n, with its co-kernel and exactly the rows that this divides
pub record Names (n : ℕ) (e : List Row) (x : Kernel) : Type 0 where
  pub number : x.expression ≡ n
  pub kernel : KernelOf e (power x.cokernel)
  pub rows_in : (k : ℕ) → k < most_rows → slice_index_or x.rows k false ≡ true → Uses (length e) (powers_at e) (power x.cokernel) k
  pub rows_all : (k : ℕ) → Uses (length e) (powers_at e) (power x.cokernel) k → slice_index_or x.rows k false ≡ true

-- xs lists every kernel of e once, ascending by co-kernel
pub record KernelList (n : ℕ) (e : List Row) (xs : List Kernel) : Type 0 where
  pub rising : (a b : ℕ) → a < b → b < length xs → Before (cokernel_at xs a) (cokernel_at xs b)
  pub sound : (a : ℕ) → a < length xs → Names n e (slice_index_or xs a no_kernel)
  pub all : (c : Powers) → KernelOf e c → (a : ℕ) × (a < length xs) × Same (cokernel_at xs a) c

-- ---- there is one list only

-- x and y name the same kernel
pub record SameKernel (x y : Kernel) : Type 0 where
  pub number : x.expression ≡ y.expression
  pub cokernels : Same (power x.cokernel) (power y.cokernel)
  pub rows : (k : ℕ) → k < most_rows → slice_index_or x.rows k false ≡ slice_index_or y.rows k false

-- xs and ys name the same kernels, place by place
abbrev pub Alike : List Kernel → List Kernel → Type 0
Alike xs ys = (length xs ≡ length ys) × ((a : ℕ) → a < length xs → SameKernel (slice_index_or xs a no_kernel) (slice_index_or ys a no_kernel))

abbrev pub OneList : Type 0
OneList = (n : ℕ) (e : List Row) (xs ys : List Kernel) → KernelList n e xs → KernelList n e ys → Alike xs ys

-- ---- the number of a refusal
abbrev pub refusal_number : KernelRefusal → ℕ
refusal_number ShortList = 9
