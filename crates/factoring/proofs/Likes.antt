-- Columns that are alike take the same kernels, and lead to styles that are alike.
use Rattle.std.proofs.Common.{◌≡◌, ℕ, suc, ◌+◌, ◌<◌, Bool, true, false, cond, ◌&&◌, ◌||◌, List, [], ◌∷◌, ◌++◌, map, length, sym, refl, ap, ◌∙◌, subst, ap₂, arith}
use Rattle.std.specs.List.{AllZip}
use Rattle.std.proofs.lemmas.List.Elements.{AllZip-get_or, length_all_zip}
use Rattle.algebra.specs.Counts.{all_negative}
use Rattle.algebra.specs.Cubes.{Powers, Same, letter, unit}
use Rattle.algebra.specs.Rows.{Alike, Row, cube_in}
use Rattle.algebra.proofs.Apart.{distinct_at, distinct_from}
use Rattle.algebra.proofs.Degrees.{same_refl}
use Rattle.rewriting.specs.Factor.{Taken, covered, factored, has, part_rows, positive, product_row, rewritten, stand_in, taken_in, without}
use Rattle.rewriting.specs.Presses.{Like}
use Rattle.rewriting.specs.Styles.{Style, equal, standing}
use Rattle.rewriting.specs.Taking.{Kernel, found, has_columns, spot, spots, taken_after, uncovered}
use Rattle.factoring.specs.Rewrites.{Crowded, anew, part_row}
use Rattle.factoring.specs.Takens.{looked}
use Rattle.table.proofs.Alikes.{alike_first}

alike_trans : (r s t : Row) → Alike r s → Alike s t → Alike r t
alike_trans r s t a b = record { sign = a.sign ∙ b.sign; cubes = λ l h. a.cubes l h ∙ b.cubes l h }

pub each_refl : (xs : List Row) → AllZip Alike xs xs
each_refl [] = tt
each_refl (x ∷ xs) = (record { sign = refl; cubes = same_refl x.cube }, each_refl xs)

pub each_trans : (xs ys zs : List Row) → AllZip Alike xs ys → AllZip Alike ys zs → AllZip Alike xs zs
each_trans [] [] [] a b = tt
each_trans [] [] (z ∷ zs) a b = absurd b
each_trans [] (y ∷ ys) zs a b = absurd a
each_trans (x ∷ xs) [] zs a b = absurd a
each_trans (x ∷ xs) (y ∷ ys) [] a b = absurd b
each_trans (x ∷ xs) (y ∷ ys) (z ∷ zs) a b = (alike_trans x y z a.0 b.0, each_trans xs ys zs a.1 b.1)

-- ---- the kernels taken

product_alike : (c : Powers) (r s : Row) → Alike r s → Alike (product_row c r) (product_row c s)
product_alike c r s a = record { sign = a.sign; cubes = λ l h. ap (λ (n : ℕ). c l + n) (a.cubes l h) }

found_alike : (xs : List Row) (r s : Row) → Alike r s → found xs r ≡ found xs s
found_alike [] r s a = refl
found_alike (x ∷ xs) r s a = ap₂ ◌||◌ (alike_first x r s a) (found_alike xs r s a)

spot_alike : (xs : List Row) (r s : Row) → Alike r s → spot xs r ≡ spot xs s
spot_alike [] r s a = refl
spot_alike (x ∷ xs) r s a = ap₂ (λ (b : Bool) (n : ℕ). cond b 0 (suc n)) (alike_first x r s a) (spot_alike xs r s a)

module _ (rows : List Row) (c : Powers) where
  has_alike : (xs ys : List Row) → AllZip Alike xs ys → has_columns rows c xs ≡ has_columns rows c ys
  has_alike [] [] a = refl
  has_alike [] (y ∷ ys) a = absurd a
  has_alike (x ∷ xs) [] a = absurd a
  has_alike (x ∷ xs) (y ∷ ys) a = ap₂ ◌&&◌ (found_alike rows (product_row c x) (product_row c y) (product_alike c x y a.0)) (has_alike xs ys a.1)

  spots_alike : (xs ys : List Row) → AllZip Alike xs ys → spots rows c xs ≡ spots rows c ys
  spots_alike [] [] a = refl
  spots_alike [] (y ∷ ys) a = absurd a
  spots_alike (x ∷ xs) [] a = absurd a
  spots_alike (x ∷ xs) (y ∷ ys) a = ap₂ (λ (n : ℕ) (ns : List ℕ). n ∷ ns) (spot_alike rows (product_row c x) (product_row c y) (product_alike c x y a.0)) (spots_alike xs ys a.1)

module _ (s : Style) (xs ys : List Row) (a : AllZip Alike xs ys) where
  looked_alike : (ts : List Taken) (k : Kernel) → looked s xs ts k ≡ looked s ys ts k
  looked_alike ts k =
      ap₂ (λ (b : Bool) (ps : List ℕ). cond b (ts ++ record { expression = k.expression; co_kernel = k.co_kernel; places = ps } ∷ []) ts)
      (ap₂ (λ (b : Bool) (ps : List ℕ). b && uncovered (covered (taken_in k.expression ts)) ps)
      (has_alike (s.expression k.expression) k.co_kernel xs ys a) (spots_alike (s.expression k.expression) k.co_kernel xs ys a))
      (spots_alike (s.expression k.expression) k.co_kernel xs ys a)

  pub taken_alike : (ts : List Taken) (ks : List Kernel) → taken_after s xs ts ks ≡ taken_after s ys ts ks
  taken_alike ts [] = refl
  taken_alike ts (k ∷ ks) = ap (λ (us : List Taken). taken_after s xs us ks) (looked_alike ts k) ∙ taken_alike (looked s ys ts k) ks

-- ---- the styles

negative_alike : (xs ys : List Row) → AllZip Alike xs ys → all_negative xs ≡ all_negative ys
negative_alike [] [] a = refl
negative_alike [] (y ∷ ys) a = absurd a
negative_alike (x ∷ xs) [] a = absurd a
negative_alike (x ∷ xs) (y ∷ ys) a = ap₂ ◌&&◌ a.0.sign (negative_alike xs ys a.1)

positive_alike : (xs ys : List Row) → AllZip Alike xs ys → AllZip Alike (map positive xs) (map positive ys)
positive_alike [] [] a = tt
positive_alike [] (y ∷ ys) a = absurd a
positive_alike (x ∷ xs) [] a = absurd a
positive_alike (x ∷ xs) (y ∷ ys) a = (record { sign = refl; cubes = a.0.cubes }, positive_alike xs ys a.1)

part_alike : (xs ys : List Row) → AllZip Alike xs ys → AllZip Alike (part_rows xs) (part_rows ys)
part_alike xs ys a =
    subst (λ (b : Bool). AllZip Alike (cond (all_negative xs) (map positive xs) xs) (cond b (map positive ys) ys)) (negative_alike xs ys a) (go (all_negative xs))
  where
    go : (b : Bool) → AllZip Alike (cond b (map positive xs) xs) (cond b (map positive ys) ys)
    go true = positive_alike xs ys a
    go false = a

module _ (s : Style) (xs ys : List Row) (a : AllZip Alike xs ys) (ts : List Taken) where
  pub factored_alike : (e : ℕ) → AllZip Alike ((factored s xs ts).expression e) ((factored s ys ts).expression e)
  factored_alike e = go (equal e (standing s))
    where
      old : rewritten (standing s) xs (taken_in e ts) (s.expression e) ≡ rewritten (standing s) ys (taken_in e ts) (s.expression e)
      old =
          ap (λ (v : Bool). without (has (covered (taken_in e ts))) (s.expression e) ++ map (part_row v (letter (standing s))) (taken_in e ts)) (negative_alike xs ys a)

      go : (b : Bool) → AllZip Alike (cond b (part_rows xs) (rewritten (standing s) xs (taken_in e ts) (s.expression e))) (cond b (part_rows ys) (rewritten (standing s) ys (taken_in e ts) (s.expression e)))
      go true = part_alike xs ys a
      go false = subst (AllZip Alike (rewritten (standing s) xs (taken_in e ts) (s.expression e))) old (each_refl (rewritten (standing s) xs (taken_in e ts) (s.expression e)))

  pub like_alike : (s' : Style) → Like (factored s ys ts) s' → Like (factored s xs ts) s'
  like_alike s' k = record {
    numerals = k.numerals;
    parts = k.parts;
    rows = λ e l. each_trans ((factored s xs ts).expression e) ((factored s ys ts).expression e) (s'.expression e) (factored_alike e) (k.rows e l);
  }

-- rows that are alike are both those of an expression, or neither
pub crowded_alike : (xs ys : List Row) → AllZip Alike xs ys → Crowded ys → Crowded xs
crowded_alike xs ys a k few d =
    k (omega (arith, n))
    (distinct_from ys (λ i j h l q. distinct_at xs d i j h (omega (arith, n))
    (λ m u. cubes i (omega arith) m u ∙ q m u ∙ sym (cubes j l m u))))
  where
    n : length xs ≡ length ys
    n = length_all_zip Alike xs ys a

    cubes : (i : ℕ) → i < length ys → (m : ℕ) → m < 32 → cube_in xs i m ≡ cube_in ys i m
    cubes i h m u = (AllZip-get_or Alike xs ys i (record { negative = false; cube = unit }) (record { negative = false; cube = unit }) a (omega (arith, n))).cubes m u

-- an expression anew, for the part of this letter
module _ (p : ℕ) (columns : List Row) (negative : Bool) (part : Powers) (e : negative ≡ all_negative columns) (f : Same part (letter p)) where
  stands_alike : (ts : List Taken) → AllZip Alike (map (stand_in p columns) ts) (map (part_row negative part) ts)
  stands_alike [] = tt
  stands_alike (t ∷ ts) = (record { sign = sym e; cubes = λ l h. ap (λ (n : ℕ). t.co_kernel l + n) (sym (f l h)) }, stands_alike ts)

  pub anew_alike : (ts : List Taken) (rows : List Row) → AllZip Alike (rewritten p columns ts rows) (anew negative part ts rows)
  anew_alike ts rows = go (without (has (covered ts)) rows)
    where
      go : (xs : List Row) → AllZip Alike (xs ++ map (stand_in p columns) ts) (xs ++ map (part_row negative part) ts)
      go [] = stands_alike ts
      go (x ∷ xs) = (record { sign = refl; cubes = same_refl x.cube }, go xs)
