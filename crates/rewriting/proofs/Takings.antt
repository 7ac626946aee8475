-- Which kernels a column set takes.
use Rattle.std.proofs.Common.{◌≡◌, ℕ, zero, suc, ◌<◌, Bool, true, false, cond, not, eqb, List, [], ◌∷◌, ◌++◌, length, sym, refl, ap, ◌∙◌, subst, ⊎_elim, arith}
use Rattle.std.specs.List.{AllByRecursion}
use Rattle.std.proofs.ByRecursion.{All-push}
use Rattle.std.proofs.lemmas.List.{append_assoc, append-nil}
use Rattle.std.proofs.lemmas.Bool.{cases_eq, and_parts, eqb-true, not-true, or_parts, or_from, or_cases, both_ways, and_from, not_from_false}
use Rattle.algebra.specs.Cubes.{Powers, Same, letters}
use Rattle.algebra.specs.Rows.{Alike, Distinct, Row, row_in}
use Rattle.rewriting.specs.Factor.{Apart, Behind, Taken, covered, has, product_row, taken_in}
use Rattle.rewriting.specs.Promises.{TakingFits}
use Rattle.rewriting.specs.Styles.{Style, equal, standing}
use Rattle.rewriting.specs.Taking.{Kernel, alike, found, has_columns, same_below, same_sign, spot, spots, take_of, taken_after, takes_next, uncovered}
use Rattle.rewriting.proofs.Parts.{equal_apart, equal_true}
use Rattle.rewriting.proofs.Places.{Other}

same_below_at : (a b : Powers) (n : ℕ) → same_below a b n ≡ true → (l : ℕ) → l < n → a l ≡ b l
unfolding same_below
same_below_at a b zero h l k = absurd (omega arith)
same_below_at a b (suc n) h l k =
    let t = and_parts (eqb (a n) (b n)) (same_below a b n) h in
    ⊎_elim (λ e. ap a e ∙ eqb-true (a n) (b n) t.0 ∙ ap b (sym e)) (λ e. same_below_at a b n t.1 l (omega arith)) (cases_eq l n)

sign_same : (x y : Bool) → same_sign x y ≡ true → x ≡ y
sign_same true y h = sym h
sign_same false true h = h
sign_same false false h = refl

alike_true : (r s : Row) → alike r s ≡ true → Alike r s
alike_true r s h =
    let t = and_parts (same_sign r.negative s.negative) (same_below r.cube s.cube letters) h in
    record { sign = sign_same _ _ t.0; cubes = same_below_at r.cube s.cube letters t.1 }

-- a row that is found is alike the row at its place
spot_found : (rows : List Row) (r : Row) → found rows r ≡ true → (spot rows r < length rows) × Alike (row_in rows (spot rows r)) r
spot_found [] r h = absurd (cc)
spot_found (x ∷ xs) r h = go (alike x r) refl (spot_found xs r)
  where
    go : (b : Bool) → alike x r ≡ b → (found xs r ≡ true → (spot xs r < length xs) × Alike (row_in xs (spot xs r)) r)
        → (cond b 0 (suc (spot xs r)) < suc (length xs)) × Alike (row_in (x ∷ xs) (cond b 0 (suc (spot xs r)))) r
    go true e f = (omega arith, alike_true x r e)
    go false e f =
        let q : found xs r ≡ true = ⊎_elim (λ t. absurd (both_ways (alike x r) e t)) (λ t. t) (or_cases (alike x r) (found xs r) h) in
        (omega (arith, (f q).0), (f q).1)

module _ (rows : List Row) (c : Powers) where
  spots_behind : (columns : List Row) → has_columns rows c columns ≡ true → Behind rows c (spots rows c columns) columns
  spots_behind [] h = tt
  spots_behind (col ∷ cols) h =
      let t = and_parts (found rows (product_row c col)) (has_columns rows c cols) h in
      (spot_found rows (product_row c col) t.0, spots_behind cols t.1)

  -- two columns with one row behind them are the same
  spot_apart : (x y : Row) → found rows (product_row c x) ≡ true → found rows (product_row c y) ≡ true → (Same x.cube y.cube → ⊥) → equal (spot rows (product_row c x)) (spot rows (product_row c y)) ≡ false
  spot_apart x y f g h =
      let i = spot rows (product_row c x) in
      let j = spot rows (product_row c y) in
      equal_apart i j (λ e. h (λ l k.
      omega (arith, (spot_found rows (product_row c x) f).1.cubes l k, (spot_found rows (product_row c y) g).1.cubes l k, ap (λ (n : ℕ). (row_in rows n).cube l) e)))

  spots_apart : (columns : List Row) → has_columns rows c columns ≡ true → Distinct columns → Apart (spots rows c columns)
  spots_apart [] h d = tt
  spots_apart (col ∷ cols) h d =
      let t = and_parts (found rows (product_row c col)) (has_columns rows c cols) h in
      (none cols t.1 d.0, spots_apart cols t.1 d.1)
    where
      none : (xs : List Row) → has_columns rows c xs ≡ true → AllByRecursion (Other col) xs → has (spots rows c xs) (spot rows (product_row c col)) ≡ false
      none [] q a = refl
      none (x ∷ xs) q a =
          let t = and_parts (found rows (product_row c x)) (has_columns rows c xs) q in
          or_from _ _ (spot_apart col x (and_parts (found rows (product_row c col)) (has_columns rows c cols) h).0 t.0 a.0) (none xs t.1 a.1)

-- lists of places joined
has_append : (xs ys : List ℕ) (k : ℕ) → has xs k ≡ false → has ys k ≡ false → has (xs ++ ys) k ≡ false
has_append [] ys k h g = g
has_append (x ∷ xs) ys k h g = let t = or_parts (equal k x) (has xs k) h in or_from _ _ t.0 (has_append xs ys k t.1 g)

equal_sym : (m n : ℕ) → equal m n ≡ false → equal n m ≡ false
equal_sym zero zero h = h
equal_sym zero (suc n) h = refl
equal_sym (suc m) zero h = refl
equal_sym (suc m) (suc n) h = equal_sym m n h

apart_append : (xs ys : List ℕ) → Apart xs → Apart ys → uncovered xs ys ≡ true → Apart (xs ++ ys)
apart_append [] ys a b u = b
apart_append (x ∷ xs) ys a b u = (has_append xs ys x a.0 (first ys u), apart_append xs ys a.1 b (rest ys u))
  where
    first : (zs : List ℕ) → uncovered (x ∷ xs) zs ≡ true → has zs x ≡ false
    first [] q = refl
    first (z ∷ zs) q =
        let t = and_parts (not (has (x ∷ xs) z)) (uncovered (x ∷ xs) zs) q in
        or_from _ _ (equal_sym z x (or_parts (equal z x) (has xs z) (not-true _ t.0)).0) (first zs t.1)

    rest : (zs : List ℕ) → uncovered (x ∷ xs) zs ≡ true → uncovered xs zs ≡ true
    rest [] q = refl
    rest (z ∷ zs) q =
        let t = and_parts (not (has (x ∷ xs) z)) (uncovered (x ∷ xs) zs) q in
        and_from _ _ (not_from_false _ (or_parts (equal z x) (has xs z) (not-true _ t.0)).1) (rest zs t.1)

of_push : (e : ℕ) (ts : List Taken) (t : Taken) → taken_in e (ts ++ t ∷ []) ≡ taken_in e ts ++ cond (equal e t.expression) (t ∷ []) []
of_push e [] t = refl
of_push e (u ∷ ts) t = go (equal e u.expression) _ _ _ (of_push e ts t)
  where
    go : (b : Bool) (xs ys zs : List Taken) → xs ≡ ys ++ zs → cond b (u ∷ xs) xs ≡ cond b (u ∷ ys) ys ++ zs
    go true xs ys zs h = ap (λ (l : List Taken). u ∷ l) h
    go false xs ys zs h = h

covered_push : (ts us : List Taken) → covered (ts ++ us) ≡ covered ts ++ covered us
covered_push [] us = refl
covered_push (t ∷ ts) us = ap (λ (l : List ℕ). t.places ++ l) (covered_push ts us) ∙ sym (append_assoc t.places (covered ts) (covered us))

-- what holds of the kernels taken so far
record Fair (s : Style) (columns : List Row) (taken : List Taken) : Type 0 where
  stands : AllByRecursion (λ (t : Taken). t.expression < standing s) taken
  behind : AllByRecursion (λ (t : Taken). Behind (s.expression t.expression) t.co_kernel t.places columns) taken
  once : (e : ℕ) → e < standing s → Apart (covered (taken_in e taken))

module _ (s : Style) (columns : List Row) (d : Distinct columns) where
  fair_more : (taken : List Taken) (k : Kernel) → k.expression < standing s → Fair s columns taken → takes_next s columns taken k ≡ true → Fair s columns (taken ++ take_of s columns k ∷ [])
  fair_more taken k l f h =
      let t = and_parts (has_columns (s.expression k.expression) k.co_kernel columns) _ h in
      record {
        stands = All-push _ taken (take_of s columns k) f.stands l;
        behind = All-push _ taken (take_of s columns k) f.behind (spots_behind (s.expression k.expression) k.co_kernel columns t.0);
        once = λ e m. subst (λ (x : List Taken). Apart (covered x)) (sym (of_push e taken (take_of s columns k))) (go e m (equal e k.expression) refl);
      }
    where
      ps : List ℕ
      ps = spots (s.expression k.expression) k.co_kernel columns

      go : (e : ℕ) → e < standing s → (b : Bool) → equal e k.expression ≡ b → Apart (covered (taken_in e taken ++ cond b (take_of s columns k ∷ []) []))
      go e m true q =
          let t = and_parts (has_columns (s.expression k.expression) k.co_kernel columns) _ h in
          subst Apart (sym (covered_push (taken_in e taken) (take_of s columns k ∷ []) ∙ ap (λ (x : List ℕ). covered (taken_in e taken) ++ x) (append-nil ps)))
          (apart_append (covered (taken_in e taken)) ps (f.once e m) (spots_apart (s.expression k.expression) k.co_kernel columns t.0 d)
          (subst (λ (n : ℕ). uncovered (covered (taken_in n taken)) ps ≡ true) (sym (equal_true e k.expression q)) t.1))
      go e m false q = subst (λ (x : List Taken). Apart (covered x)) (sym (append-nil (taken_in e taken))) (f.once e m)

  fair_after : (kernels : List Kernel) (taken : List Taken) → AllByRecursion (λ (k : Kernel). k.expression < standing s) kernels → Fair s columns taken → Fair s columns (taken_after s columns taken kernels)
  fair_after [] taken a f = f
  fair_after (k ∷ ks) taken a f = fair_after ks (cond (takes_next s columns taken k) (taken ++ take_of s columns k ∷ []) taken) a.1 (go (takes_next s columns taken k) refl)
    where
      go : (b : Bool) → takes_next s columns taken k ≡ b → Fair s columns (cond b (taken ++ take_of s columns k ∷ []) taken)
      go true e = fair_more taken k a.0 f e
      go false e = f

pub taking_fits : TakingFits
taking_fits s columns kernels left two d a one =
    let f = fair_after s columns d kernels [] a (record { stands = tt; behind = tt; once = λ e l. tt }) in
    record { two = two; some = one; letter_left = left; stands = f.stands; behind = f.behind; once = f.once }
