-- What factor saves.
use Rattle.std.proofs.Common.{◌≡◌, ℕ, zero, suc, ◌+◌, ◌-◌, ◌*◌, ◌<◌, ◌≤◌, Bool, true, false, cond, ◌&&◌, ◌⊎◌, List, [], ◌∷◌, map, length, sym, refl, ap, ◌∙◌, ap₂, inl, inr, ⊎_elim, arith}
use Rattle.std.specs.List.{AllByRecursion}
use Rattle.std.proofs.lemmas.Bool.{cases_eq}
use Rattle.algebra.specs.Counts.{additions, all_negative, less_one, multiplications, negations, row_multiplications}
use Rattle.algebra.specs.Cubes.{letter}
use Rattle.algebra.specs.Rows.{Alike, Distinct, Row, degree}
use Rattle.algebra.specs.Sums.{counting, total, up_to}
use Rattle.algebra.proofs.Degrees.{degree_letter, degree_none, degree_product}
use Rattle.algebra.proofs.Sums.{total_constant, total_le, total_map, total_same, up_to_join, up_to_neutral, up_to_one, up_to_same}
use Rattle.algebra.proofs.Tallies.{row_multiplications_alike}
use Rattle.rewriting.specs.Closed.{positives}
use Rattle.rewriting.specs.Factor.{Taken, Takes, additions_saved, factored, multiplications_saved, part_rows, positive, product_row, rewritten, saved_by, stand_in, taken_in}
use Rattle.rewriting.specs.Styles.{Saves, Style, equal, over, standing}
use Rattle.rewriting.proofs.Factors.{behind_of}
use Rattle.rewriting.proofs.Parts.{at_new, at_old, equal_apart, equal_refl, negations_with, over_next}
use Rattle.rewriting.proofs.Places.{after, before}

-- some facts of numbers
equal_zero : (m n : ℕ) → (m ≡ 0 → n ≡ 0) → (n ≡ 0 → m ≡ 0) → equal m 0 ≡ equal n 0
equal_zero zero zero f g = refl
equal_zero zero (suc n) f g = absurd (omega (arith, f refl))
equal_zero (suc m) zero f g = absurd (omega (arith, g refl))
equal_zero (suc m) (suc n) f g = refl

total_minus : {X : Type 0} (f g : X → ℕ) (xs : List X) → ((x : X) → g x ≤ f x) → total counting (λ x. f x - g x) xs + total counting g xs ≡ total counting f xs
total_minus f g [] h = omega arith
total_minus f g (x ∷ xs) h = omega (arith, h x, total_minus f g xs h)

pub less_one_is : (n : ℕ) → less_one n ≡ n - 1
less_one_is zero = omega arith
less_one_is (suc n) = omega arith

-- one number by itself
pub up_to_at : (x p n : ℕ) → p < n → up_to counting n (λ e. cond (equal e p) x 0) ≡ x
up_to_at x p n h =
    up_to_one counting n (λ e. cond (equal e p) x 0) p h (λ e l q. ap (λ (b : Bool). cond b x 0) (equal_apart e p q))
    ∙ ap (λ (b : Bool). cond b x 0) (equal_refl p)

-- what is added up over the kernels of each expression is added up over all of them
pub up_to_of : (f : Taken → ℕ) (n : ℕ) (ts : List Taken) → AllByRecursion (λ (t : Taken). t.expression < n) ts → up_to counting n (λ e. total counting f (taken_in e ts)) ≡ total counting f ts
up_to_of f n [] h = up_to_neutral counting n _ (λ k l. refl)
up_to_of f n (t ∷ ts) h =
    up_to_same counting n _ (λ e. cond (equal e t.expression) (f t) 0 + total counting f (taken_in e ts)) (λ e _. go (equal e t.expression) (taken_in e ts))
    ∙ up_to_join counting n (λ e. cond (equal e t.expression) (f t) 0) (λ e. total counting f (taken_in e ts))
    ∙ ap₂ ◌+◌ (up_to_at (f t) t.expression n h.0) (up_to_of f n ts h.1)
  where
    go : (b : Bool) (us : List Taken) → total counting f (cond b (t ∷ us) us) ≡ cond b (f t) 0 + total counting f us
    go true us = refl
    go false us = omega arith

-- an expression's negations by two numbers: how many rows are positive, and how many there are
pub positives_none : (e : List Row) → all_negative e ≡ true → positives e ≡ 0
positives_none [] h = refl
positives_none (r ∷ rs) h = go r.negative (all_negative rs) h (positives_none rs)
  where
    go : (b v : Bool) → (b && v) ≡ true → (v ≡ true → positives rs ≡ 0) → cond b 0 1 + positives rs ≡ 0
    go true v e r = omega (arith, r e)
    go false v e r = cc

pub positives_some : (e : List Row) → all_negative e ≡ false → 1 ≤ positives e
positives_some [] h = absurd (cc)
positives_some (r ∷ rs) h = go r.negative (all_negative rs) h (positives_some rs)
  where
    go : (b v : Bool) → (b && v) ≡ false → (v ≡ false → 1 ≤ positives rs) → 1 ≤ cond b 0 1 + positives rs
    go true v e r = omega (arith, r e)
    go false v e r = omega arith

abbrev one_if : ℕ → ℕ
one_if n = cond (equal n 0) 1 0

pub negations_count : (e : List Row) → negations e ≡ cond (equal (positives e) 0) (cond (equal (length e) 0) 0 1) 0
negations_count [] = refl
negations_count (r ∷ rs) = go (all_negative (r ∷ rs)) refl
  where
    go : (b : Bool) → all_negative (r ∷ rs) ≡ b → ◌≡◌ {A = ℕ} (cond b 1 0) (cond (equal (positives (r ∷ rs)) 0) 1 0)
    go true e = sym (ap (λ (n : ℕ). one_if n) (positives_none (r ∷ rs) e))
    go false e = some (positives (r ∷ rs)) (positives_some (r ∷ rs) e)
      where
        some : (n : ℕ) → 1 ≤ n → 0 ≡ one_if n
        some zero h = absurd (omega arith)
        some (suc n) h = refl

-- two expressions have as many negations if they have no positive row together, and no row together
pub same_negations : (d e : List Row) → (positives d ≡ 0 → positives e ≡ 0) → (positives e ≡ 0 → positives d ≡ 0) → (length d ≡ 0 → length e ≡ 0) → (length e ≡ 0 → length d ≡ 0) → negations d ≡ negations e
same_negations d e f g h k =
    negations_count d
    ∙ ap₂ (λ (b v : Bool). cond b (cond v 0 1) 0) (equal_zero (positives d) (positives e) f g) (equal_zero (length d) (length e) h k)
    ∙ sym (negations_count e)

-- the number of rows as a sum
pub length_total : {X : Type 0} (xs : List X) → total counting (λ _. 1) xs ≡ length xs
length_total xs = omega (arith, total_constant 1 xs)

-- more facts of numbers
less_more : (k d : ℕ) → less_one d ≤ less_one (k + d)
less_more k d = omega (arith, less_one_is d, less_one_is (k + d))

less_letter : (d k l : ℕ) → d ≡ k + l → l ≡ 1 → less_one d ≡ k
less_letter d k l e f = omega (arith, less_one_is d)

enough_two : (k x y m m' : ℕ) → m ≤ m' → 1 ≤ x + y → k + (less_one x + (less_one y + m)) ≤ less_one (k + x) + (less_one (k + y) + m')
enough_two k x y m m' h e = omega (arith, less_one_is x, less_one_is y, less_one_is (k + x), less_one_is (k + y))

nil_both : (n x y r : ℕ) → ((x ≡ 0) × (y ≡ 0)) ⊎ ((1 ≤ x) × (1 ≤ y)) → n * x + r ≡ 0 → n * y + r ≡ 0
nil_both n x y r (inl h) e = omega (arith, ap (λ (v : ℕ). n * v) h.1)
nil_both zero x y r (inr h) e = omega arith
nil_both (suc n) x y r (inr h) e = absurd (omega arith)

one_less : (n c r : ℕ) → 2 ≤ c → less_one (n * c + r) + n ≡ less_one (n + r) + n * c
one_less zero c r h = omega (arith, less_one_is (0 * c + r), less_one_is (0 + r))
one_less (suc n) c r h = omega (arith, less_one_is (suc n * c + r), less_one_is (suc n + r))

less_additions : (b a a₁ n c : ℕ) → 1 ≤ n → 1 ≤ c → b + n ≡ a₁ + n * c → a ≡ a₁ + less_one c → b ≡ a + (n - 1) * (c - 1)
less_additions b a a₁ zero c h k e f = absurd (omega arith)
less_additions b a a₁ (suc n) zero h k e f = absurd (omega arith)
less_additions b a a₁ (suc n) (suc c) h k e f = let q : (suc n - 1) * (suc c - 1) ≡ n * c = ap₂ ◌*◌ (omega arith) (omega arith) in omega (arith, less_one_is (suc c))

less_multiplications : (b a a₁ k t d v : ℕ) → b + k ≡ a₁ + t → a ≡ a₁ + d → v + k ≡ t → d ≤ v → b ≡ a + (v - d)
less_multiplications b a a₁ k t d v e f g h = omega arith

-- the products of a kernel's rows are at least its co-kernel's degree and the columns' own products, if one of two columns has a letter
abbrev row_products : ℕ → Row → ℕ
row_products k r = less_one (k + degree r.cube)

-- one of two columns has a letter
pub letter_among : (x y : Row) (zs : List Row) → Distinct (x ∷ y ∷ zs) → 1 ≤ degree x.cube + degree y.cube
letter_among x y zs d =
    ⊎_elim (λ e. absurd (d.0.0 (λ l q. degree_none x.cube (omega arith) l q ∙ sym (degree_none y.cube (omega arith) l q))))
    (λ e. omega arith) (cases_eq (degree x.cube + degree y.cube) 0)

enough : (k : ℕ) (columns : List Row) → 2 ≤ length columns → Distinct columns → k + multiplications columns ≤ total counting (row_products k) columns
enough k [] h d = absurd (omega arith)
enough k (x ∷ []) h d = absurd (omega arith)
enough k (x ∷ y ∷ zs) h d =
    enough_two k (degree x.cube) (degree y.cube) _ _ (total_le row_multiplications (row_products k) zs (λ r. less_more k (degree r.cube))) (letter_among x y zs d)

-- the part has the columns' rows, signs aside
part_total : (f : Row → ℕ) → ((r : Row) → f (positive r) ≡ f r) → (columns : List Row) → total counting f (part_rows columns) ≡ total counting f columns
part_total f h columns = go (all_negative columns)
  where
    go : (b : Bool) → total counting f (cond b (map positive columns) columns) ≡ total counting f columns
    go true = total_map counting f positive columns ∙ total_same counting _ f columns h
    go false = refl

pub part_length : (columns : List Row) → length (part_rows columns) ≡ length columns
part_length columns = sym (length_total (part_rows columns)) ∙ part_total (λ _. 1) (λ _. refl) columns ∙ length_total columns

part_negations : (columns : List Row) → 1 ≤ length columns → negations (part_rows columns) ≡ 0
part_negations [] h = absurd (omega arith)
part_negations (r ∷ rs) h = go (all_negative (r ∷ rs)) refl
  where
    go : (b : Bool) → all_negative (r ∷ rs) ≡ b → negations (cond b (map positive (r ∷ rs)) (r ∷ rs)) ≡ 0
    go true e = refl
    go false e = ap (λ (b : Bool). cond b 1 0) e

module _ (s : Style) (columns : List Row) (taken : List Taken) (k : Takes s columns taken) where
  abbrev next : ℕ → List Row
  next e = rewritten (standing s) columns (taken_in e taken) (s.expression e)

  -- before and after at one expression, of any number that rows have
  at : (f : Row → ℕ) → ((r r' : Row) → Alike r r' → f r ≡ f r') → (e : ℕ) → e < standing s
      → (rest : ℕ) × (total counting f (s.expression e) ≡ total counting (λ (t : Taken). total counting (λ (col : Row). f (product_row t.co_kernel col)) columns) (taken_in e taken) + rest)
      × (total counting f (next e) ≡ total counting (λ (t : Taken). f (stand_in (standing s) columns t)) (taken_in e taken) + rest)
  at f alike e l = (
    _,
    before counting f alike (s.expression e) columns (taken_in e taken) (behind_of s columns e taken k.behind) (k.once e l),
    after counting f alike (s.expression e) columns (standing s) (taken_in e taken),
  )

  pub rows_at : (e : ℕ) → e < standing s
      → (rest : ℕ) × (length (s.expression e) ≡ length (taken_in e taken) * length columns + rest) × (length (next e) ≡ length (taken_in e taken) + rest)
  rows_at e l =
      let q = at (λ _. 1) (λ _ _ _. refl) e l in (
        q.0,
        sym (length_total (s.expression e)) ∙ q.1 ∙ ap (λ (x : ℕ). x + q.0) (total_constant _ (taken_in e taken) ∙ ap (λ (x : ℕ). length (taken_in e taken) * x) (length_total columns)),
        sym (length_total (next e)) ∙ q.2 ∙ ap (λ (x : ℕ). x + q.0) (length_total (taken_in e taken)),
      )

  pub positives_at : (e : ℕ) → e < standing s → (positives (s.expression e) ≡ 0 → positives (next e) ≡ 0) × (positives (next e) ≡ 0 → positives (s.expression e) ≡ 0)
  positives_at e l =
      let n = length (taken_in e taken) in
      let m = at (λ (r : Row). cond r.negative 0 1) (λ r r' h. ap (λ (b : Bool). cond b 0 1) h.sign) e l in
      let x = positives columns in
      let y : ℕ = cond (all_negative columns) 0 1 in
      let m₁ : positives (s.expression e) ≡ n * x + m.0 = m.1 ∙ ap (λ (v : ℕ). v + m.0) (total_constant x (taken_in e taken)) in
      let m₂ : positives (next e) ≡ n * y + m.0 = m.2 ∙ ap (λ (v : ℕ). v + m.0) (total_constant y (taken_in e taken)) in
      let c = way (all_negative columns) refl in
      let c' : ((y ≡ 0) × (x ≡ 0)) ⊎ ((1 ≤ y) × (1 ≤ x)) = ⊎_elim (λ h. inl (h.1, h.0)) (λ h. inr (h.1, h.0)) c in
      (λ z. m₂ ∙ nil_both n x y m.0 c (sym m₁ ∙ z), λ z. m₁ ∙ nil_both n y x m.0 c' (sym m₂ ∙ z))
    where
      way : (b : Bool) → all_negative columns ≡ b → ((positives columns ≡ 0) × (◌≡◌ {A = ℕ} (cond b 0 1) 0)) ⊎ ((1 ≤ positives columns) × (1 ≤ cond b 0 1))
      way true h = inl (positives_none columns h, refl)
      way false h = inr (positives_some columns h, omega arith)

  negations_at : (e : ℕ) → e < standing s → negations (s.expression e) ≡ negations (next e)
  negations_at e l =
      let two = k.two in
      let n = length (taken_in e taken) in
      let q = rows_at e l in
      same_negations (s.expression e) (next e) (positives_at e l).0 (positives_at e l).1
      (λ z. omega (arith, nil_both n (length columns) 1 q.0 (inr (omega arith, omega arith)) (sym q.1 ∙ z), q.2))
      (λ z. q.1 ∙ nil_both n 1 (length columns) q.0 (inr (omega arith, omega arith)) (omega (arith, q.2, z)))

  additions_at : (e : ℕ) → e < standing s → additions (s.expression e) + total counting (λ _. 1) (taken_in e taken) ≡ additions (next e) + total counting (λ _. length columns) (taken_in e taken)
  additions_at e l =
      let q = rows_at e l in
      ap₂ (λ (x y : ℕ). less_one x + y) q.1 (length_total (taken_in e taken))
      ∙ one_less (length (taken_in e taken)) (length columns) q.0 k.two
      ∙ sym (ap₂ (λ (x y : ℕ). less_one x + y) q.2 (total_constant (length columns) (taken_in e taken)))

  multiplications_at : (e : ℕ) → e < standing s
      → multiplications (s.expression e) + total counting (λ (t : Taken). degree t.co_kernel) (taken_in e taken)
      ≡ multiplications (next e) + total counting (λ (t : Taken). total counting (row_products (degree t.co_kernel)) columns) (taken_in e taken)
  multiplications_at e l =
      let q = at row_multiplications row_multiplications_alike e l in
      omega (arith, q.1, q.2, old, new)
    where
      old : total counting (λ (t : Taken). total counting (λ (col : Row). row_multiplications (product_row t.co_kernel col)) columns) (taken_in e taken)
          ≡ total counting (λ (t : Taken). total counting (row_products (degree t.co_kernel)) columns) (taken_in e taken)
      old = total_same counting _ _ (taken_in e taken) (λ t. total_same counting _ _ columns (λ col. ap less_one (degree_product t.co_kernel col.cube)))

      new : total counting (λ (t : Taken). row_multiplications (stand_in (standing s) columns t)) (taken_in e taken)
          ≡ total counting (λ (t : Taken). degree t.co_kernel) (taken_in e taken)
      new =
          total_same counting _ _ (taken_in e taken)
          (λ t. less_letter _ _ _ (degree_product t.co_kernel (letter (standing s))) (degree_letter (standing s) k.letter_left))

  -- over the expressions that stood
  across : (x y : ℕ → ℕ) (f g : Taken → ℕ) → ((e : ℕ) → e < standing s → x e + total counting f (taken_in e taken) ≡ y e + total counting g (taken_in e taken))
      → up_to counting (standing s) x + total counting f taken ≡ up_to counting (standing s) y + total counting g taken
  across x y f g h =
      ap (λ (v : ℕ). up_to counting (standing s) x + v) (sym (up_to_of f (standing s) taken k.stands))
      ∙ sym (up_to_join counting (standing s) x (λ e. total counting f (taken_in e taken)))
      ∙ up_to_same counting (standing s) _ _ h
      ∙ up_to_join counting (standing s) y (λ e. total counting g (taken_in e taken))
      ∙ ap (λ (v : ℕ). up_to counting (standing s) y + v) (up_to_of g (standing s) taken k.stands)

  pub factor_saves : Distinct columns → Saves s (factored s columns taken) (multiplications_saved columns taken) (additions_saved columns taken)
  factor_saves d = record {
    lowers = record {
      fewer_multiplications =
          less_multiplications _ _ _ _ _ _ _ (across _ _ _ _ multiplications_at)
          (over_next s next (part_rows columns) multiplications
          ∙ ap (λ (v : ℕ). up_to counting (standing s) (λ e. multiplications (next e)) + v) (part_total row_multiplications (λ _. refl) columns))
          (total_minus _ _ taken (λ t. omega (arith, fair t))) (never_below taken k.some);
      fewer_additions =
          less_additions _ _ _ (length taken) (length columns) k.some (omega (arith, k.two))
          (ap (λ (v : ℕ). over additions s + v) (sym (length_total taken)) ∙ across _ _ _ _ additions_at
          ∙ ap (λ (v : ℕ). up_to counting (standing s) (λ e. additions (next e)) + v) (total_constant (length columns) taken))
          (over_next s next (part_rows columns) additions
          ∙ ap (λ (v : ℕ). up_to counting (standing s) (λ e. additions (next e)) + less_one v) (part_length columns));
      negations_stay = λ e l. negations_at e l ∙ sym (at_old s next (part_rows columns) negations e l);
      as_many_negations = negations_with s next (part_rows columns) negations_at no_negation;
    };
    part_positive = at_new s next (part_rows columns) negations ∙ no_negation;
  }
    where
      fair : (t : Taken) → degree t.co_kernel + multiplications columns ≤ total counting (row_products (degree t.co_kernel)) columns
      fair t = enough (degree t.co_kernel) columns k.two d

      never_below : (ts : List Taken) → 1 ≤ length ts → multiplications columns ≤ total counting (saved_by columns) ts
      never_below [] h = absurd (omega arith)
      never_below (t ∷ ts) h = omega (arith, fair t)

      no_negation : negations (part_rows columns) ≡ 0
      no_negation = part_negations columns (omega (arith, k.two))
