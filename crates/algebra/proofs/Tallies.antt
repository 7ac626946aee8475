-- Laws of the counts.
use Rattle.std.proofs.Common.{◌≡◌, ℕ, zero, suc, ◌+◌, ◌<◌, ◌≤◌, Bool, true, false, cond, ◌&&◌, List, [], ◌∷◌, ◌++◌, length, Decides, refl, ap, ap₂, add-zero, arith}
use Rattle.std.specs.List.{AllZip, AllByRecursion}
use Rattle.std.specs.List.Sorted.{IsPermutation}
use Rattle.std.proofs.lemmas.Bool.{and_left, and_right}
use Rattle.std.proofs.lemmas.List.Elements.{length_all_zip}
use Rattle.std.proofs.lemmas.List.Sorted.{length_permutation, IsPermutation-sym}
use Rattle.std.proofs.ByRecursion.{all_shuffled, Decides-by_and}
use Rattle.std.proofs.lemmas.Bool.Decides.{Decides-like, same_from_decides}
use Rattle.algebra.specs.Sums.{counting}
use Rattle.algebra.specs.Rows.{Row, Alike, degree, row_in}
use Rattle.algebra.specs.Counts.{less_one, row_multiplications, multiplications, additions, all_negative, negations}
use Rattle.algebra.specs.Laws.{CountLaws}
use Rattle.algebra.proofs.Sums.{total_append, total_each}
use Rattle.algebra.proofs.Degrees.{degree_unit, degree_letter, degree_product, degree_quotient, degree_same, degree_divisor, degree_common, degree_none}

pub less_one_more : (n : ℕ) → 1 ≤ n → suc (less_one n) ≡ n
less_one_more zero h = absurd (omega arith)
less_one_more (suc n) h = refl

-- joining two joined heaps is one operation more
pub less_one_add : (m n : ℕ) → 1 ≤ m → 1 ≤ n → less_one (m + n) ≡ less_one m + less_one n + 1
less_one_add m n h k = omega (arith, less_one_more m h, less_one_more n k, less_one_more (m + n) (omega arith))

pub row_multiplications_alike : (r s : Row) → Alike r s → row_multiplications r ≡ row_multiplications s
row_multiplications_alike r s h = ap less_one (degree_same r.cube s.cube h.cubes)

pub multiplications_append : (e f : List Row) → multiplications (e ++ f) ≡ multiplications e + multiplications f
multiplications_append e f = total_append counting row_multiplications e f

pub multiplications_alike : (e f : List Row) → AllZip Alike e f → multiplications e ≡ multiplications f
multiplications_alike e f h = total_each counting Alike row_multiplications row_multiplications_alike e f h

pub additions_alike : (e f : List Row) → AllZip Alike e f → additions e ≡ additions f
additions_alike e f h = ap less_one (length_all_zip Alike e f h)

-- signs
abbrev Negative : Row → Type 0
Negative r = r.negative ≡ true

pub all_negative_decides : (e : List Row) → Decides (all_negative e) (AllByRecursion (λ (r : Row). r.negative ≡ true) e)
all_negative_decides e = Decides-by_and (λ (r : Row). r.negative) (λ (r : Row). r.negative ≡ true) all_negative (λ r. ((λ t. t), (λ t. t))) refl (λ r rows. refl) e

pub all_negative_some : (e : List Row) (k : ℕ) → k < length e → (row_in e k).negative ≡ false → all_negative e ≡ false
all_negative_some [] k h n = absurd (omega arith)
all_negative_some (r ∷ rows) zero h n = and_left r.negative (all_negative rows) n
all_negative_some (r ∷ rows) (suc k) h n = and_right r.negative (all_negative rows) (all_negative_some rows k (omega arith) n)

pub negations_all : (e : List Row) → 1 ≤ length e → all_negative e ≡ true → negations e ≡ 1
negations_all [] h n = absurd (omega arith)
negations_all (r ∷ rows) h n = ap (λ (t : Bool). cond t 1 0) n

pub negations_some : (e : List Row) → all_negative e ≡ false → negations e ≡ 0
negations_some [] n = refl
negations_some (r ∷ rows) n = ap (λ (t : Bool). cond t 1 0) n

-- the negations depend on how many rows there are, and on whether all are negative
pub negations_by : (e f : List Row) → length e ≡ length f → all_negative e ≡ all_negative f → negations e ≡ negations f
negations_by [] [] l n = refl
negations_by [] (s ∷ f) l n = absurd (omega arith)
negations_by (r ∷ e) [] l n = absurd (omega arith)
negations_by (r ∷ e) (s ∷ f) l n = ap (λ (t : Bool). cond t 1 0) n

pub negations_shuffled : (e f : List Row) → IsPermutation e f → negations f ≡ negations e
negations_shuffled e f s =
    negations_by f e (length_permutation e f s)
    (same_from_decides (all_negative f) (all_negative e)
    (all_negative_decides f)
    (Decides-like (all_negative e) (all_shuffled Negative e f s) (all_shuffled Negative f e (IsPermutation-sym e f s)) (all_negative_decides e)))

all_negative_alike : (e f : List Row) → AllZip Alike e f → all_negative e ≡ all_negative f
all_negative_alike [] [] h = refl
all_negative_alike [] (s ∷ f) h = absurd h
all_negative_alike (r ∷ e) [] h = absurd h
all_negative_alike (r ∷ e) (s ∷ f) h = ap₂ ◌&&◌ h.0.sign (all_negative_alike e f h.1)

pub negations_alike : (e f : List Row) → AllZip Alike e f → negations e ≡ negations f
negations_alike e f h = negations_by e f (length_all_zip Alike e f h) (all_negative_alike e f h)

pub count_laws : CountLaws
count_laws = record {
  degree_unit = degree_unit;
  degree_letter = degree_letter;
  degree_product = degree_product;
  degree_quotient = degree_quotient;
  degree_same = degree_same;
  degree_divisor = degree_divisor;
  degree_common = degree_common;
  degree_none = degree_none;
  row_one = λ r e. ap less_one e;
  row_more = λ r h. less_one_more (degree r.cube) h;
  rows_none = refl;
  rows_one = λ r. add-zero _;
  rows_joined = multiplications_append;
  sum_none = refl;
  sum_more = λ e h. less_one_more (length e) h;
  signs_none = refl;
  signs_all = λ e h n. negations_all e h ((all_negative_decides e).1 n);
  signs_some = λ e k h n. negations_some e (all_negative_some e k h n);
}
