-- Laws of worth.
use Rattle.std.proofs.Common.{◌≡◌, ℕ, ◌<◌, Bool, true, false, cond, List, [], ◌∷◌, ◌++◌, map, sym, refl, ap, ◌∙◌, ap₂}
use Rattle.std.specs.List.{AllZip, AllByRecursion}
use Rattle.std.specs.List.Sorted.{IsPermutation}
use Rattle.ring.specs.Ring.{CommRing}
use Rattle.ring.proofs.Laws.{times_zero, times_opposite}
use Rattle.algebra.specs.Cubes.{letters, Powers, Same, Divides, unit, letter, product, quotient}
use Rattle.algebra.specs.Sums.{adding, multiplying, total, repeated}
use Rattle.algebra.specs.Rows.{Row, Alike, divides_test, multiples, others, quotient_row, quotients}
use Rattle.algebra.specs.Worth.{cube_worth, row_worth, worth}
use Rattle.algebra.specs.Laws.{WorthLaws}
use Rattle.algebra.proofs.Sums.{total_append, total_each, total_shuffled, total_parts, total_through, up_to_same, up_to_join, up_to_neutral, up_to_one, repeated_add}
use Rattle.algebra.proofs.Degrees.{letter_own, letter_other, product_quotient, divides_decides}
use Rattle.algebra.proofs.Apart.{multiples_divided}

module _ {S : Type 0} (c : CommRing S) where
  -- a constant factor
  pub total_times : {X : Type 0} (x : S) (f : X → S) (xs : List X) → total (adding c) (λ y. c.times x (f y)) xs ≡ c.times x (total (adding c) f xs)
  total_times x f xs = total_through (adding c) (adding c) (c.times x) (times_zero c x) (c.times_plus x) f xs

module _ {S : Type 0} (c : CommRing S) (value : ℕ → S) where
  pub worth_same : (a b : Powers) → Same a b → cube_worth c value a ≡ cube_worth c value b
  worth_same a b s = up_to_same (multiplying c) letters _ _ (λ l h. ap (repeated (multiplying c) (value l)) (s l h))

  pub worth_unit : cube_worth c value unit ≡ c.one
  worth_unit = up_to_neutral (multiplying c) letters _ (λ l h. refl)

  pub worth_letter : (j : ℕ) → j < letters → cube_worth c value (letter j) ≡ value j
  worth_letter j h =
      up_to_one (multiplying c) letters (λ l. repeated (multiplying c) (value l) (letter j l)) j h
      (λ l k e. ap (repeated (multiplying c) (value l)) (letter_other j l e))
      ∙ ap (repeated (multiplying c) (value j)) (letter_own j) ∙ c.times_one (value j)

  pub worth_product : (a b : Powers) → cube_worth c value (product a b) ≡ c.times (cube_worth c value a) (cube_worth c value b)
  worth_product a b =
      up_to_same (multiplying c) letters _ _ (λ l h. repeated_add (multiplying c) (value l) (a l) (b l))
      ∙ up_to_join (multiplying c) letters (λ l. repeated (multiplying c) (value l) (a l)) (λ l. repeated (multiplying c) (value l) (b l))

  pub worth_quotient : (a b : Powers) → Divides a b → c.times (cube_worth c value (quotient b a)) (cube_worth c value a) ≡ cube_worth c value b
  worth_quotient a b p = sym (worth_product (quotient b a) a) ∙ worth_same (product (quotient b a) a) b (product_quotient a b p)

  -- rows
  pub row_worth_alike : (r s : Row) → Alike r s → row_worth c value r ≡ row_worth c value s
  row_worth_alike r s h = ap₂ (λ (t : Bool) (x : S). cond t (c.opposite x) x) h.sign (worth_same r.cube s.cube h.cubes)

  signed_times : (t : Bool) (x y : S) → cond t (c.opposite (c.times x y)) (c.times x y) ≡ c.times x (cond t (c.opposite y) y)
  signed_times true x y = sym (times_opposite c x y)
  signed_times false x y = refl

  -- a row times a cube, with the row's sign
  pub row_worth_product : (a : Powers) (r : Row) → row_worth c value (record { negative = r.negative; cube = product a r.cube }) ≡ c.times (cube_worth c value a) (row_worth c value r)
  row_worth_product a r =
      ap (λ (x : S). cond r.negative (c.opposite x) x) (worth_product a r.cube)
      ∙ signed_times r.negative (cube_worth c value a) (cube_worth c value r.cube)

  pub row_worth_quotient : (a : Powers) (r : Row) → Divides a r.cube → row_worth c value r ≡ c.times (cube_worth c value a) (row_worth c value (quotient_row a r))
  row_worth_quotient a r p =
      ap (λ (x : S). cond r.negative (c.opposite x) x) (sym (worth_quotient a r.cube p) ∙ c.times_comm _ _)
      ∙ signed_times r.negative (cube_worth c value a) (cube_worth c value (quotient r.cube a))

  -- expressions
  pub worth_append : (e f : List Row) → worth c value (e ++ f) ≡ c.plus (worth c value e) (worth c value f)
  worth_append e f = total_append (adding c) (row_worth c value) e f

  pub worth_shuffled : (e f : List Row) → IsPermutation e f → worth c value f ≡ worth c value e
  worth_shuffled e f s = total_shuffled (adding c) (row_worth c value) e f s

  pub worth_alike : (e f : List Row) → AllZip Alike e f → worth c value e ≡ worth c value f
  worth_alike e f h = total_each (adding c) Alike (row_worth c value) row_worth_alike e f h

  pub worth_parts : (a : Powers) (e : List Row) → worth c value e ≡ c.plus (worth c value (multiples a e)) (worth c value (others a e))
  worth_parts a e = total_parts (adding c) (row_worth c value) (λ (r : Row). divides_test a r.cube) e

  -- rows that a divides, as a times their quotients
  pub worth_divided : (a : Powers) (e : List Row) → AllByRecursion (λ (r : Row). Divides a r.cube) e → worth c value e ≡ c.times (cube_worth c value a) (worth c value (map (quotient_row a) e))
  worth_divided a [] h = sym (times_zero c _)
  worth_divided a (r ∷ e) h = ap₂ c.plus (row_worth_quotient a r h.0) (worth_divided a e h.1) ∙ sym (c.times_plus _ _ _)

  pub worth_multiples : (a : Powers) (e : List Row) → worth c value (multiples a e) ≡ c.times (cube_worth c value a) (worth c value (quotients a e))
  worth_multiples a e = worth_divided a (multiples a e) (multiples_divided a e)

pub worth_laws : {S : Type 0} (c : CommRing S) → WorthLaws c
worth_laws c value = record {
  of_unit = worth_unit c value;
  of_letter = worth_letter c value;
  of_product = worth_product c value;
  of_quotient = worth_quotient c value;
  of_same = worth_same c value;
  of_none = refl;
  of_positive = λ a. c.plus_zero _;
  of_negative = λ a. c.plus_zero _;
  of_alike = worth_alike c value;
  of_joined = worth_append c value;
  of_shuffled = worth_shuffled c value;
  tested = divides_decides;
  of_multiples = worth_multiples c value;
  of_parts = worth_parts c value;
}
