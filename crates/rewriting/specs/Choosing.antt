-- Which column set factor takes: of all sets of two or more columns of one kernel the one that saves most, and among equals the one met first.
use Rattle.std.specs.Prelude.{◌≡◌, ℕ, ◌+◌, ◌-◌, ◌*◌, ◌/◌, ◌%◌, ◌^◌, ◌<◌, ◌≤◌, cond, ◌⊎◌, List, [], ◌∷◌, length, ◌==◌, slice_index_or}
use Rattle.algebra.specs.Counts.{additions, multiplications}
use Rattle.algebra.specs.Cubes.{unit}
use Rattle.algebra.specs.Rows.{Row, quotients}
use Rattle.rewriting.specs.Factor.{Taken, additions_saved, factored, multiplications_saved}
use Rattle.rewriting.specs.Styles.{Style, over}
use Rattle.rewriting.specs.Taking.{Kernel, taken_by}

-- the kernel at a place of a list, and its columns: the quotients of the rows that the co-kernel divides, in their order
abbrev pub kernel_in : List Kernel → ℕ → Kernel
kernel_in kernels p = slice_index_or kernels p (record { expression = 0; co_kernel = unit })

abbrev pub columns_in : Style → Kernel → List Row
columns_in s k = quotients k.co_kernel (s.expression k.expression)

-- what a binary number names of a list: the first counts 1, the second 2, the third 4
abbrev pub named_by : {X : Type 0} → ℕ → List X → List X
named_by n [] = []
named_by n (x ∷ xs) = cond (n % 2 == 1) (x ∷ named_by (n / 2) xs) (named_by (n / 2) xs)

-- the set that the number n names of the columns of the kernel at the place p
abbrev pub column_set : Style → List Kernel → ℕ → ℕ → List Row
column_set s kernels p n = named_by n (columns_in s (kernel_in kernels p))

-- it has two columns or more
pub record Candidate (s : Style) (kernels : List Kernel) (p n : ℕ) : Type 0 where
  pub place : p < length kernels
  pub number : n < 2 ^ length (columns_in s (kernel_in kernels p))
  pub two : 2 ≤ length (column_set s kernels p n)

-- the kernels taken with it, and the style that it leads to
abbrev pub taken_with : Style → List Kernel → ℕ → ℕ → List Taken
taken_with s kernels p n = taken_by s (column_set s kernels p n) kernels

abbrev pub factored_with : Style → List Kernel → ℕ → ℕ → Style
factored_with s kernels p n = factored s (column_set s kernels p n) (taken_with s kernels p n)

-- what is saved from s to s', counted over all expressions before and after; and weighed
abbrev pub saved : (List Row → ℕ) → Style → Style → ℕ
saved count s s' = over count s - over count s'

abbrev pub weighed : ℕ → ℕ → ℕ → ℕ
weighed w m a = w * m + a

-- the saving of a set, at the weight w
abbrev pub saving : ℕ → Style → List Kernel → ℕ → ℕ → ℕ
saving w s kernels p n = weighed w (saved multiplications s (factored_with s kernels p n)) (saved additions s (factored_with s kernels p n))

-- the same by the formulas for the savings
abbrev pub reckoned : ℕ → Style → List Kernel → ℕ → ℕ → ℕ
reckoned w s kernels p n =
    weighed w
    (multiplications_saved (column_set s kernels p n) (taken_with s kernels p n))
    (additions_saved (column_set s kernels p n) (taken_with s kernels p n))

-- (q, m) is met before (p, n): kernels in order, then sets as numbers
abbrev pub Earlier : ℕ → ℕ → ℕ → ℕ → Type 0
Earlier q m p n = (q < p) ⊎ ((q ≡ p) × (m < n))

-- Of the candidates with these values (p, n) is the best: none has more, and each that is met before has less.
pub record Best (value : ℕ → ℕ → ℕ) (s : Style) (kernels : List Kernel) (p n : ℕ) : Type 0 where
  pub candidate : Candidate s kernels p n
  pub most : (q m : ℕ) → Candidate s kernels q m → value q m ≤ value p n
  pub first : (q m : ℕ) → Candidate s kernels q m → Earlier q m p n → value q m < value p n

-- no candidate has a value above 0
abbrev pub GainsNothing : (ℕ → ℕ → ℕ) → Style → List Kernel → Type 0
GainsNothing value s kernels = (p n : ℕ) → Candidate s kernels p n → value p n ≡ 0
