-- The theorems, as the contracts name them.
use Rattle.std.specs.Prelude.{◌≡◌, ℕ, suc, ◌+◌, ◌<◌, ◌≤◌, true, false, List, [], ◌∷◌, ◌++◌, length, Decides}
use Rattle.std.specs.List.{AllZip, AllByRecursion}
use Rattle.std.specs.List.Sorted.{IsPermutation}
use Rattle.ring.specs.Ring.{CommRing}
use Rattle.algebra.specs.Cubes.{letters, Powers, Same, Divides, unit, letter, product, quotient, common}
use Rattle.algebra.specs.Rows.{Row, Alike, degree, row_in, cube_in, divides_test, multiples, others, quotients}
use Rattle.algebra.specs.Worth.{cube_worth, worth}
use Rattle.algebra.specs.Counts.{row_multiplications, multiplications, additions, negations}
use Rattle.algebra.specs.Kernels.{Free, NoCommonLetter, KernelAt, QuotientIs}

-- where letter l is worth `value l`
pub record WorthLawsAt {S : Type 0} (c : CommRing S) (value : ℕ → S) : Type 0 where
  pub of_unit : cube_worth c value unit ≡ c.one
  pub of_letter : (j : ℕ) → j < letters → cube_worth c value (letter j) ≡ value j
  pub of_product : (a b : Powers) → cube_worth c value (product a b) ≡ c.times (cube_worth c value a) (cube_worth c value b)
  pub of_quotient : (a b : Powers) → Divides a b → c.times (cube_worth c value (quotient b a)) (cube_worth c value a) ≡ cube_worth c value b
  pub of_same : (a b : Powers) → Same a b → cube_worth c value a ≡ cube_worth c value b
  -- expressions: no row, one row; row by row, one behind another, in another order
  pub of_none : worth c value [] ≡ c.zero
  pub of_positive : (a : Powers) → worth c value (record { negative = false; cube = a } ∷ []) ≡ cube_worth c value a
  pub of_negative : (a : Powers) → worth c value (record { negative = true; cube = a } ∷ []) ≡ c.opposite (cube_worth c value a)
  pub of_alike : (e f : List Row) → AllZip Alike e f → worth c value e ≡ worth c value f
  pub of_joined : (e f : List Row) → worth c value (e ++ f) ≡ c.plus (worth c value e) (worth c value f)
  pub of_shuffled : (e f : List Row) → IsPermutation e f → worth c value f ≡ worth c value e
  -- the rows that a divides, as a times their quotients; and the rest
  pub tested : (a b : Powers) → Decides (divides_test a b) (Divides a b)
  pub of_multiples : (a : Powers) (e : List Row) → worth c value (multiples a e) ≡ c.times (cube_worth c value a) (worth c value (quotients a e))
  pub of_parts : (a : Powers) (e : List Row) → worth c value e ≡ c.plus (worth c value (multiples a e)) (worth c value (others a e))

abbrev pub WorthLaws : {S : Type 0} → CommRing S → Type 0
WorthLaws {S} c = (value : ℕ → S) → WorthLawsAt c value

pub record CountLaws : Type 0 where
  pub degree_unit : degree unit ≡ 0
  pub degree_letter : (j : ℕ) → j < letters → degree (letter j) ≡ 1
  pub degree_product : (a b : Powers) → degree (product a b) ≡ degree a + degree b
  pub degree_quotient : (a b : Powers) → Divides a b → degree (quotient b a) + degree a ≡ degree b
  pub degree_same : (a b : Powers) → Same a b → degree a ≡ degree b
  pub degree_divisor : (a b : Powers) → Divides a b → degree a ≤ degree b
  pub degree_common : (a b : Powers) → (degree (common a b) ≤ degree a) × (degree (common a b) ≤ degree b)
  pub degree_none : (a : Powers) → degree a ≡ 0 → Same a unit
  -- the counts, in plain words
  pub row_one : (r : Row) → degree r.cube ≡ 0 → row_multiplications r ≡ 0
  pub row_more : (r : Row) → 1 ≤ degree r.cube → suc (row_multiplications r) ≡ degree r.cube
  pub rows_none : multiplications [] ≡ 0
  pub rows_one : (r : Row) → multiplications (r ∷ []) ≡ row_multiplications r
  pub rows_joined : (e f : List Row) → multiplications (e ++ f) ≡ multiplications e + multiplications f
  pub sum_none : additions [] ≡ 0
  pub sum_more : (e : List Row) → 1 ≤ length e → suc (additions e) ≡ length e
  pub signs_none : negations [] ≡ 0
  pub signs_all : (e : List Row) → 1 ≤ length e → AllByRecursion (λ (r : Row). r.negative ≡ true) e → negations e ≡ 1
  pub signs_some : (e : List Row) (k : ℕ) → k < length e → (row_in e k).negative ≡ false → negations e ≡ 0

-- the two forms of 'no letter divides them all' agree
abbrev pub KernelForms : Type 0
KernelForms =
    (rows : ℕ) (cube_at : ℕ → Powers) (c : Powers)
    → (Free rows cube_at c → NoCommonLetter rows cube_at c) × (NoCommonLetter rows cube_at c → Free rows cube_at c)

-- d is a co-kernel of the quotient by c just where c times d is a co-kernel of the expression
abbrev pub NestedKernels : Type 0
NestedKernels =
    (rows : ℕ) (cube_at : ℕ → Powers) (c : Powers) (count : ℕ) (rest_at : ℕ → Powers) → QuotientIs rows cube_at c count rest_at
    → (d : Powers) → (KernelAt count rest_at d → KernelAt rows cube_at (product c d)) × (KernelAt rows cube_at (product c d) → KernelAt count rest_at d)

-- every expression has its quotient: the list of the quotients of its rows
abbrev pub QuotientsMade : Type 0
QuotientsMade = (e : List Row) (c : Powers) → QuotientIs (length e) (cube_in e) c (length (quotients c e)) (cube_in (quotients c e))
