-- Column sets of kernels take what factor may take, and their savings are as reckoned.
use Rattle.std.proofs.Common.{◌≡◌, ℕ, zero, suc, ◌+◌, ◌-◌, ◌*◌, ◌/◌, ◌%◌, ◌<◌, ◌≤◌, Bool, true, false, cond, eqb, List, [], ◌∷◌, ◌++◌, map, length, sym, refl, ap₂, arith, length-append}
use Rattle.std.specs.List.{AllByRecursion}
use Rattle.std.proofs.ByRecursion.{All-get_or, All-weaker}
use Rattle.std.proofs.lemmas.Bool.{and_from, eq-eqb, or_left, or_right}
use Rattle.algebra.specs.Counts.{additions, multiplications}
use Rattle.algebra.specs.Cubes.{Powers, Divides, letters, unit}
use Rattle.algebra.specs.Rows.{Alike, Distinct, Row, divides_test, multiples, quotient_row, quotients}
use Rattle.algebra.proofs.Apart.{distinct_quotients}
use Rattle.algebra.proofs.Degrees.{divides_decides}
use Rattle.rewriting.specs.Choosing.{column_set, columns_in, factored_with, kernel_in, named_by, taken_with}
use Rattle.rewriting.specs.Factor.{Taken, Takes, additions_saved, multiplications_saved, product_row}
use Rattle.rewriting.specs.Promises.{CandidatesFair}
use Rattle.rewriting.specs.Styles.{Style, over, standing}
use Rattle.rewriting.specs.Taking.{Kernel, alike, found, has_columns, same_below, same_sign, spots, take_of, taken_after, takes_next, uncovered}
use Rattle.rewriting.proofs.Places.{Other}
use Rattle.rewriting.proofs.Savings.{factor_saves}
use Rattle.rewriting.proofs.Takings.{taking_fits}

-- alike rows pass the test
same_below_from : (a b : Powers) (n : ℕ) → ((l : ℕ) → l < n → a l ≡ b l) → same_below a b n ≡ true
unfolding same_below
same_below_from a b zero h = refl
same_below_from a b (suc n) h = and_from (eqb (a n) (b n)) (same_below a b n) (eq-eqb (a n) (b n) (h n (omega arith))) (same_below_from a b n (λ l k. h l (omega arith)))

sign_from : (x y : Bool) → x ≡ y → same_sign x y ≡ true
sign_from true y h = sym h
sign_from false true h = h
sign_from false false h = refl

pub alike_from : (r s : Row) → Alike r s → alike r s ≡ true
alike_from r s h = and_from _ _ (sign_from r.negative s.negative h.sign) (same_below_from r.cube s.cube letters h.cubes)

-- co-kernel times a quotient is the row again
again : (c : Powers) (r : Row) → Divides c r.cube → Alike r (product_row c (quotient_row c r))
again c r d = record { sign = refl; cubes = λ l h. omega (arith, d l h) }

-- every column of a kernel is found in its expression
columns_found : (c : Powers) (rows : List Row) → AllByRecursion (λ (col : Row). found rows (product_row c col) ≡ true) (quotients c rows)
columns_found c [] = tt
columns_found c (r ∷ rows) = go (divides_test c r.cube) (divides_decides c r.cube).0 (All-weaker _ (λ (col : Row). found (r ∷ rows) (product_row c col) ≡ true) (λ col f. or_right (alike r (product_row c col)) (found rows (product_row c col)) f) (quotients c rows) (columns_found c rows))
  where
    go : (t : Bool) → (t ≡ true → Divides c r.cube) → AllByRecursion (λ (col : Row). found (r ∷ rows) (product_row c col) ≡ true) (quotients c rows)
        → AllByRecursion (λ (col : Row). found (r ∷ rows) (product_row c col) ≡ true) (map (quotient_row c) (cond t (r ∷ multiples c rows) (multiples c rows)))
    go true y a = (or_left (alike r (product_row c (quotient_row c r))) _ (alike_from r (product_row c (quotient_row c r)) (again c r (y refl))), a)
    go false y a = a

-- what holds of each in a list holds of those that a number names; and distinct rows stay distinct
pub all_named : {X : Type 0} (P : X → Type 0) (n : ℕ) (xs : List X) → AllByRecursion P xs → AllByRecursion P (named_by n xs)
all_named P n [] a = tt
all_named P n (x ∷ xs) a = go (eqb (n % 2) 1) (all_named P (n / 2) xs a.1)
  where
    go : (b : Bool) → AllByRecursion P (named_by (n / 2) xs) → AllByRecursion P (cond b (x ∷ named_by (n / 2) xs) (named_by (n / 2) xs))
    go true rest = (a.0, rest)
    go false rest = rest

pub distinct_named : (n : ℕ) (xs : List Row) → Distinct xs → Distinct (named_by n xs)
distinct_named n [] d = tt
distinct_named n (x ∷ xs) d = go (eqb (n % 2) 1) (distinct_named (n / 2) xs d.1)
  where
    go : (b : Bool) → Distinct (named_by (n / 2) xs) → Distinct (cond b (x ∷ named_by (n / 2) xs) (named_by (n / 2) xs))
    go true rest = (all_named (Other x) (n / 2) xs d.0, rest)
    go false rest = rest

has_all : (rows : List Row) (c : Powers) (columns : List Row) → AllByRecursion (λ (col : Row). found rows (product_row c col) ≡ true) columns → has_columns rows c columns ≡ true
has_all rows c [] a = refl
has_all rows c (col ∷ cols) a = and_from (found rows (product_row c col)) (has_columns rows c cols) a.0 (has_all rows c cols a.1)

none_covered : (ks : List ℕ) → uncovered [] ks ≡ true
none_covered [] = refl
none_covered (k ∷ ks) = none_covered ks

-- where a kernel of the list has every column, one kernel or more is taken
module _ (s : Style) (columns : List Row) where
  taken_grows : (kernels : List Kernel) (taken : List Taken) → 1 ≤ length taken → 1 ≤ length (taken_after s columns taken kernels)
  taken_grows [] taken h = h
  taken_grows (k ∷ ks) taken h = taken_grows ks _ (go (takes_next s columns taken k))
    where
      go : (b : Bool) → 1 ≤ length (cond b (taken ++ take_of s columns k ∷ []) taken)
      go true = simp length-append (omega arith)
      go false = h

  pub taken_some : (kernels : List Kernel) (p : ℕ) → p < length kernels
      → has_columns (s.expression (kernel_in kernels p).expression) (kernel_in kernels p).co_kernel columns ≡ true
      → 1 ≤ length (taken_after s columns [] kernels)
  taken_some [] p l h = absurd (omega arith)
  taken_some (k ∷ ks) zero l h =
      taken_grows ks _ (go (takes_next s columns [] k) (and_from (has_columns (s.expression k.expression) k.co_kernel columns) _ h (none_covered (spots (s.expression k.expression) k.co_kernel columns))))
    where
      go : (b : Bool) → b ≡ true → 1 ≤ length (cond b (take_of s columns k ∷ []) [])
      go true e = omega arith
      go false e = absurd (cc)
  taken_some (k ∷ ks) (suc p) l h = go (takes_next s columns [] k) (taken_some ks p (omega arith) h)
    where
      go : (b : Bool) → 1 ≤ length (taken_after s columns [] ks) → 1 ≤ length (taken_after s columns (cond b (take_of s columns k ∷ []) []) ks)
      go true later = taken_grows ks (take_of s columns k ∷ []) (omega arith)
      go false later = later

pub candidates_fair : CandidatesFair
candidates_fair s kernels z left stand p n h =
    let k = kernel_in kernels p in
    let rows = s.expression k.expression in
    let stands : k.expression < standing s = All-get_or (λ (x : Kernel). x.expression < standing s) kernels p (record { expression = 0; co_kernel = unit }) h.place stand in
    let apart : Distinct (column_set s kernels p n) = distinct_named n (columns_in s k) (distinct_quotients k.co_kernel rows (z.tidy k.expression stands).apart) in
    let some : 1 ≤ length (taken_with s kernels p n) =
    taken_some s (column_set s kernels p n) kernels p h.place
    (has_all rows k.co_kernel (column_set s kernels p n) (all_named (λ (col : Row). found rows (product_row k.co_kernel col) ≡ true) n (columns_in s k) (columns_found k.co_kernel rows)))
    in
    let takes : Takes s (column_set s kernels p n) (taken_with s kernels p n) = taking_fits s (column_set s kernels p n) kernels left h.two apart stand some in
    let saves = (factor_saves s (column_set s kernels p n) (taken_with s kernels p n) takes apart).lowers in
    record {
      takes = takes;
      apart = apart;
      fewer_multiplications = omega (arith, saves.fewer_multiplications);
      fewer_additions = omega (arith, saves.fewer_additions);
      reckoned_right = λ w. ap₂ (λ (m a : ℕ). w * m + a)
          (let e : over multiplications s - over multiplications (factored_with s kernels p n) ≡ multiplications_saved (column_set s kernels p n) (taken_with s kernels p n) = omega (arith, saves.fewer_multiplications) in e)
          (let e : over additions s - over additions (factored_with s kernels p n) ≡ additions_saved (column_set s kernels p n) (taken_with s kernels p n) = omega (arith, saves.fewer_additions) in e);
    }
