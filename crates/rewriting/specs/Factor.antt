-- Factor as a rewriting: in each taken kernel's expression the covered rows go, the rest close up, and co-kernel times part is appended.
use Rattle.std.specs.Prelude.{◌≡◌, ℕ, suc, ◌+◌, ◌-◌, ◌*◌, ◌<◌, ◌≤◌, Bool, false, cond, ◌||◌, List, [], ◌∷◌, ◌++◌, map, length}
use Rattle.std.specs.List.{flat_map, AllByRecursion}
use Rattle.algebra.specs.Counts.{all_negative, less_one, multiplications}
use Rattle.algebra.specs.Cubes.{Powers, letter, letters, product}
use Rattle.algebra.specs.Rows.{Alike, Row, degree, row_in}
use Rattle.algebra.specs.Sums.{counting, total}
use Rattle.rewriting.specs.Styles.{Style, equal, standing, with_part}

-- a kernel that is taken: its expression, its co-kernel, and for each column the place of the row behind it
pub record Taken : Type 0 where
  pub expression : ℕ
  pub co_kernel : Powers
  pub places : List ℕ

-- a row times a cube, with the row's sign; and a row without its sign
abbrev pub product_row : Powers → Row → Row
product_row a r = record { negative = r.negative; cube = product a r.cube }

abbrev pub positive : Row → Row
positive r = record { negative = false; cube = r.cube }

-- whether a number is in a list (of places; that of the book is over numerals, and compares as the program does)
abbrev pub has : List ℕ → ℕ → Bool
has [] k = false
has (x ∷ xs) k = equal k x || has xs k

-- no number twice
abbrev pub Apart : List ℕ → Type 0
Apart [] = Unit {0}
Apart (x ∷ xs) = (has xs x ≡ false) × Apart xs

-- a list without the places that a test names: the rest close up
abbrev pub without : (ℕ → Bool) → List Row → List Row
without gone [] = []
without gone (r ∷ rs) = cond (gone 0) (without (λ k. gone (suc k)) rs) (r ∷ without (λ k. gone (suc k)) rs)

-- the taken kernels of expression e, in order
abbrev pub taken_in : ℕ → List Taken → List Taken
taken_in e [] = []
taken_in e (t ∷ ts) = cond (equal e t.expression) (t ∷ taken_in e ts) (taken_in e ts)

-- the covered places of some kernels of one expression
abbrev pub covered : List Taken → List ℕ
covered ts = flat_map (λ (t : Taken). t.places) ts

-- the row at each place is the co-kernel times the column of that place, sign for sign
abbrev pub Behind : List Row → Powers → List ℕ → List Row → Type 0
Behind rows c [] [] = Unit {0}
Behind rows c [] (col ∷ cols) = ⊥
Behind rows c (k ∷ ks) [] = ⊥
Behind rows c (k ∷ ks) (col ∷ cols) = ((k < length rows) × Alike (row_in rows k) (product_row c col)) × Behind rows c ks cols

-- What factor takes: two columns or more, one kernel or more, each in an expression that stands, no place covered twice, and a letter left.
pub record Takes (s : Style) (columns : List Row) (taken : List Taken) : Type 0 where
  pub two : 2 ≤ length columns
  pub some : 1 ≤ length taken
  pub letter_left : standing s < letters
  pub stands : AllByRecursion (λ (t : Taken). t.expression < standing s) taken
  pub behind : AllByRecursion (λ (t : Taken). Behind (s.expression t.expression) t.co_kernel t.places columns) taken
  pub once : (e : ℕ) → e < standing s → Apart (covered (taken_in e taken))

-- the part, held positive where all columns are negative; and the row that stands for a taken kernel, negative then
abbrev pub part_rows : List Row → List Row
part_rows columns = cond (all_negative columns) (map positive columns) columns

abbrev pub stand_in : ℕ → List Row → Taken → Row
stand_in p columns t = record { negative = all_negative columns; cube = product t.co_kernel (letter p) }

abbrev pub rewritten : ℕ → List Row → List Taken → List Row → List Row
rewritten p columns ts rows = without (has (covered ts)) rows ++ map (stand_in p columns) ts

abbrev pub factored : Style → List Row → List Taken → Style
factored s columns taken = with_part s (λ e. rewritten (standing s) columns (taken_in e taken) (s.expression e)) (part_rows columns)

-- what is saved: for each kernel the products of co-kernel and column, less those of its new row; and once the columns' own
abbrev pub saved_by : List Row → Taken → ℕ
saved_by columns t = total counting (λ (col : Row). less_one (degree t.co_kernel + degree col.cube)) columns - degree t.co_kernel

abbrev pub multiplications_saved : List Row → List Taken → ℕ
multiplications_saved columns taken = total counting (saved_by columns) taken - multiplications columns

abbrev pub additions_saved : List Row → List Taken → ℕ
additions_saved columns taken = (length taken - 1) * (length columns - 1)
