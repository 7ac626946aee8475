-- Closed styles stay closed.
use Rattle.std.proofs.Common.{◌≡◌, ℕ, zero, suc, ◌+◌, ◌*◌, ◌<◌, ◌≤◌, Bool, true, false, cond, ◌⊎◌, List, [], ◌∷◌, ◌++◌, map, length, get_or, sym, refl, ap, ◌∙◌, subst, inl, inr, ⊎_elim, arith}
use Rattle.std.specs.List.{AllByRecursion}
use Rattle.std.proofs.ByRecursion.{All-append, All-map, All-get_or, All-weaker}
use Rattle.std.proofs.lemmas.List.{length-map}
use Rattle.std.proofs.lemmas.Bool.{cases_eq, cases_order, or_parts, or_from, both_ways}
use Rattle.algebra.specs.Counts.{all_negative}
use Rattle.algebra.specs.Cubes.{Powers, Same, letter, letters, product, quotient}
use Rattle.algebra.specs.Rows.{Alike, Distinct, Row, degree, divides_test, row_in}
use Rattle.algebra.specs.Sums.{counting, up_to}
use Rattle.algebra.proofs.Apart.{distinct_at}
use Rattle.algebra.proofs.Degrees.{degree_divisor, degree_quotient, divides_decides, degree_letter, degree_product, degree_same, letter_other, letter_own}
use Rattle.algebra.proofs.Sums.{total_constant, total_map}
use Rattle.rewriting.specs.Closed.{Below, Closed, Held, Low, Tidy, positives}
use Rattle.rewriting.specs.Factor.{Apart, Behind, Taken, Takes, covered, has, part_rows, positive, product_row, rewritten, stand_in, taken_in, without}
use Rattle.rewriting.specs.Promises.{FactorStaysClosed, ShareStaysClosed}
use Rattle.rewriting.specs.Share.{Shares, cube_part, divided, shared_row}
use Rattle.rewriting.specs.Styles.{Style, equal, standing, with_part}
use Rattle.rewriting.proofs.Factors.{behind_of}
use Rattle.rewriting.proofs.Parts.{at_new, at_old, equal_refl}
use Rattle.rewriting.proofs.Places.{Other, nothing}
use Rattle.rewriting.proofs.Savings.{letter_among, part_length, positives_at, positives_some, rows_at}
use Rattle.rewriting.proofs.Shares.{quotient_times}

-- two places with the same cube are one
pub one_place : (rows : List Row) → Distinct rows → (i j : ℕ) → i < length rows → j < length rows → Same (row_in rows i).cube (row_in rows j).cube → i ≡ j
one_place rows d i j h k e =
    ⊎_elim (λ q. q) (λ q. ⊎_elim (λ p. absurd (distinct_at rows d i j p k e)) (λ p. absurd (distinct_at rows d j i p h (λ l m. sym (e l m)))) q) (cases_order i j)

distinct_append : (xs ys : List Row) → Distinct xs → Distinct ys → AllByRecursion (λ (x : Row). AllByRecursion (Other x) ys) xs → Distinct (xs ++ ys)
distinct_append [] ys d e a = e
distinct_append (x ∷ xs) ys d e a = (All-append (Other x) xs ys d.0 a.0, distinct_append xs ys d.1 e a.1)

pub all_without : (P : Row → Type 0) (gone : ℕ → Bool) (rows : List Row) → AllByRecursion P rows → AllByRecursion P (without gone rows)
all_without P gone [] a = tt
all_without P gone (r ∷ rs) a = go (gone 0) (all_without P (λ k. gone (suc k)) rs a.1)
  where
    go : (b : Bool) → AllByRecursion P (without (λ k. gone (suc k)) rs) → AllByRecursion P (cond b (without (λ k. gone (suc k)) rs) (r ∷ without (λ k. gone (suc k)) rs))
    go true h = h
    go false h = (a.0, h)

distinct_without : (gone : ℕ → Bool) (rows : List Row) → Distinct rows → Distinct (without gone rows)
distinct_without gone [] d = tt
distinct_without gone (r ∷ rs) d = go (gone 0) (distinct_without (λ k. gone (suc k)) rs d.1)
  where
    go : (b : Bool) → Distinct (without (λ k. gone (suc k)) rs) → Distinct (cond b (without (λ k. gone (suc k)) rs) (r ∷ without (λ k. gone (suc k)) rs))
    go true h = h
    go false h = (all_without (Other r) (λ k. gone (suc k)) rs d.0, h)

-- what holds of co-kernel times column, since it is a row
pub behind_each : (rows : List Row) (c : Powers) (Q : Row → Type 0) → ((k : ℕ) → k < length rows → (col : Row) → Alike (row_in rows k) (product_row c col) → Q col)
    → (ks : List ℕ) (columns : List Row) → Behind rows c ks columns → AllByRecursion Q columns
behind_each rows c Q f [] [] b = tt
behind_each rows c Q f [] (col ∷ cols) b = absurd b
behind_each rows c Q f (k ∷ ks) [] b = absurd b
behind_each rows c Q f (k ∷ ks) (col ∷ cols) b = (f k b.0.0 col b.0.1, behind_each rows c Q f ks cols b.1)

module _ (g n : ℕ) (rows : List Row) (t : Tidy g n rows) (columns : List Row) (c : Powers) (ks : List ℕ) (b : Behind rows c ks columns) where
  -- neither co-kernel nor column has other letters, nor together a higher degree
  columns_below : AllByRecursion (λ (col : Row). (l : ℕ) → n ≤ l → l < letters → c l + col.cube l ≡ 0) columns
  columns_below = behind_each rows c _ (λ k h col a l m q. sym (a.cubes l q) ∙ All-get_or (Below n) rows k nothing h t.known l m q) ks columns b

  columns_low : AllByRecursion (λ (col : Row). degree c + degree col.cube ≤ 25) columns
  columns_low = behind_each rows c _ (λ k h col a. omega (arith, degree_same _ _ a.cubes, degree_product c col.cube, All-get_or Low rows k nothing h t.low)) ks columns b

  columns_held : AllByRecursion (λ (col : Row). (l : ℕ) → 8 + g ≤ l → l < 16 → c l + col.cube l ≡ 0) columns
  columns_held = behind_each rows c _ (λ k h col a l m q. sym (a.cubes l (omega arith)) ∙ All-get_or (Held g) rows k nothing h t.held l m q) ks columns b

  stand_in_held : (p : ℕ) → 1 ≤ length columns → 16 ≤ p → (m : Bool) → Held g (record { negative = m; cube = product c (letter p) })
  stand_in_held p one h m l q k = go columns one columns_held
    where
      go : (cols : List Row) → 1 ≤ length cols → AllByRecursion (λ (col : Row). (l : ℕ) → 8 + g ≤ l → l < 16 → c l + col.cube l ≡ 0) cols → c l + letter p l ≡ 0
      go [] o a = absurd (omega arith)
      go (x ∷ xs) o a = let e : letter p l ≡ 0 = letter_other p l (λ r. omega arith) in omega (arith, a.0 l q k)

  stand_in_below : (p : ℕ) → 1 ≤ length columns → n ≤ p → (m : Bool) → Below (suc p) (record { negative = m; cube = product c (letter p) })
  stand_in_below p one h m l q k = go columns one columns_below
    where
      go : (cols : List Row) → 1 ≤ length cols → AllByRecursion (λ (col : Row). (l : ℕ) → n ≤ l → l < letters → c l + col.cube l ≡ 0) cols → c l + letter p l ≡ 0
      go [] o a = absurd (omega arith)
      go (x ∷ xs) o a = let e : letter p l ≡ 0 = letter_other p l (λ r. omega arith) in omega (arith, a.0 l (omega arith) k)

  stand_in_low : (p : ℕ) → p < letters → 2 ≤ length columns → Distinct columns → (m : Bool) → Low (record { negative = m; cube = product c (letter p) })
  stand_in_low p small two d m = go columns two d columns_low
    where
      go : (cols : List Row) → 2 ≤ length cols → Distinct cols → AllByRecursion (λ (col : Row). degree c + degree col.cube ≤ 25) cols → degree (product c (letter p)) ≤ 25
      go [] o d a = absurd (omega arith)
      go (x ∷ []) o d a = absurd (omega arith)
      go (x ∷ y ∷ zs) o d a = omega (arith, degree_product c (letter p), degree_letter p small, letter_among x y zs d, a.0, a.1.0)

-- lists of places
pub has_parts : (xs ys : List ℕ) (k : ℕ) → has (xs ++ ys) k ≡ false → (has xs k ≡ false) × (has ys k ≡ false)
has_parts [] ys k h = (refl, h)
has_parts (x ∷ xs) ys k h =
    let t = or_parts (equal k x) (has (xs ++ ys) k) h in
    let r = has_parts xs ys k t.1 in
    (or_from (equal k x) (has xs k) t.0 r.0, r.1)

apart_right : (xs ys : List ℕ) → Apart (xs ++ ys) → Apart ys
apart_right [] ys a = a
apart_right (x ∷ xs) ys a = apart_right xs ys a.1

-- the rows that stand for the kernels of one expression are distinct: equal co-kernels would cover one row twice
module _ (p : ℕ) (rows : List Row) (d : Distinct rows) (col : Row) (cols : List Row) where
  abbrev SetBehind : Taken → Type 0
  SetBehind t = Behind rows t.co_kernel t.places (col ∷ cols)

  other_one : (t : Taken) (k : ℕ) → k < length rows → Alike (row_in rows k) (product_row t.co_kernel col)
      → (u : Taken) → SetBehind u → has u.places k ≡ false → Other (stand_in p (col ∷ cols) t) (stand_in p (col ∷ cols) u)
  other_one t k h a u b n e = go u.places b n
    where
      go : (js : List ℕ) → Behind rows u.co_kernel js (col ∷ cols) → has js k ≡ false → ⊥
      go [] c m = c
      go (j ∷ js) c m =
          let q : k ≡ j = one_place rows d k j h c.0.0 (λ l z. omega (arith, a.cubes l z, c.0.1.cubes l z, e l z)) in
          both_ways (equal k j) (or_parts (equal k j) (has js k) m).0 (ap (equal k) (sym q) ∙ equal_refl k)

  other_ones : (t : Taken) (k : ℕ) → k < length rows → Alike (row_in rows k) (product_row t.co_kernel col)
      → (us : List Taken) → AllByRecursion SetBehind us → has (covered us) k ≡ false → AllByRecursion (Other (stand_in p (col ∷ cols) t)) (map (stand_in p (col ∷ cols)) us)
  other_ones t k h a [] b n = tt
  other_ones t k h a (u ∷ us) b n =
      let q = has_parts u.places (covered us) k n in
      (other_one t k h a u b.0 q.0, other_ones t k h a us b.1 q.1)

  stand_ins_distinct : (ts : List Taken) → AllByRecursion SetBehind ts → Apart (covered ts) → Distinct (map (stand_in p (col ∷ cols)) ts)
  stand_ins_distinct [] b a = tt
  stand_ins_distinct (t ∷ ts) b a = (go t.places b.0 a, stand_ins_distinct ts b.1 (apart_right t.places (covered ts) a))
    where
      go : (ks : List ℕ) → Behind rows t.co_kernel ks (col ∷ cols) → Apart (ks ++ covered ts) → AllByRecursion (Other (stand_in p (col ∷ cols) t)) (map (stand_in p (col ∷ cols)) ts)
      go [] c z = absurd c
      go (k ∷ ks) c z = other_ones t k c.0.0 c.0.1 ts b.1 (has_parts ks (covered ts) k z.0).1

pub all_of : {X : Type 0} (P : X → Type 0) → ((x : X) → P x) → (xs : List X) → AllByRecursion P xs
all_of P f [] = tt
all_of P f (x ∷ xs) = (f x, all_of P f xs)

below_more : (n : ℕ) (r : Row) → Below n r → Below (suc n) r
below_more n r b l h k = b l (omega arith) k

fewer : (n c r : ℕ) → 1 ≤ c → n * c + r ≤ 8 → n + r ≤ 8
fewer n zero r h k = absurd (omega arith)
fewer n (suc c) r h k = omega arith

at_least : (n c r : ℕ) → 1 ≤ n → n * c + r ≤ 8 → c ≤ 8
at_least zero c r h k = absurd (omega arith)
at_least (suc n) c r h k = omega arith

-- a style with one part more is closed
module _ (s : Style) (next : ℕ → List Row) (part : List Row) where
  closed_with : standing s < letters → ((e : ℕ) → e < standing s → Tidy (length s.numerals) (suc (standing s)) (next e)) → Tidy (length s.numerals) (suc (standing s)) part
      → ((k : ℕ) → k < s.parts → 1 ≤ positives (next (16 + k))) → 1 ≤ positives part → Closed (with_part s next part)
  closed_with small tn tp pn pp = record {
    few_parts = omega arith;
    tidy = λ e l. subst (λ (n : ℕ). Tidy (length s.numerals) n ((with_part s next part).expression e)) more (tidy e l (cases_eq e (standing s)));
    positive_parts = λ k l. positive_part k l (cases_eq k s.parts);
  }
    where
      more : suc (16 + s.parts) ≡ 16 + (s.parts + 1)
      more = omega arith

      tidy : (e : ℕ) → e < 16 + (s.parts + 1) → (e ≡ standing s) ⊎ (e ≡ standing s → ⊥) → Tidy (length s.numerals) (suc (standing s)) ((with_part s next part).expression e)
      tidy e l (inl q) = subst (Tidy (length s.numerals) (suc (standing s))) (sym (ap (with_part s next part).expression q ∙ at_new s next part (λ x. x))) tp
      tidy e l (inr q) = subst (Tidy (length s.numerals) (suc (standing s))) (sym (at_old s next part (λ x. x) e (omega arith))) (tn e (omega arith))

      positive_part : (k : ℕ) → k < s.parts + 1 → (k ≡ s.parts) ⊎ (k ≡ s.parts → ⊥) → 1 ≤ positives ((with_part s next part).expression (16 + k))
      positive_part k l (inl q) = subst (λ (n : ℕ). 1 ≤ n) (sym (ap (λ (n : ℕ). positives ((with_part s next part).expression (16 + n))) q ∙ at_new s next part positives)) pp
      positive_part k l (inr q) = subst (λ (n : ℕ). 1 ≤ n) (sym (at_old s next part positives (16 + k) (omega arith))) (pn k (omega arith))

-- the part
pub part_all : (P : Row → Type 0) → ((r : Row) → P r → P (positive r)) → (columns : List Row) → AllByRecursion P columns → AllByRecursion P (part_rows columns)
part_all P f columns a = go (all_negative columns)
  where
    go : (b : Bool) → AllByRecursion P (cond b (map positive columns) columns)
    go true = All-map P positive columns (All-weaker P (λ (r : Row). P (positive r)) f columns a)
    go false = a

part_distinct : (columns : List Row) → Distinct columns → Distinct (part_rows columns)
part_distinct columns d = go (all_negative columns)
  where
    all : (xs : List Row) → Distinct xs → Distinct (map positive xs)
    all [] e = tt
    all (x ∷ xs) e = (All-map (Other (positive x)) positive xs e.0, all xs e.1)

    go : (b : Bool) → Distinct (cond b (map positive columns) columns)
    go true = all columns d
    go false = d

part_positives : (columns : List Row) → 1 ≤ length columns → 1 ≤ positives (part_rows columns)
part_positives columns h = go (all_negative columns) refl
  where
    go : (b : Bool) → all_negative columns ≡ b → 1 ≤ positives (cond b (map positive columns) columns)
    go true e = omega (arith, total_map counting (λ (r : Row). cond r.negative 0 1) positive columns, total_constant 1 columns)
    go false e = positives_some columns e

module _ (s : Style) (columns : List Row) (taken : List Taken) (k : Takes s columns taken) (d : Distinct columns) (z : Closed s) where
  abbrev next : ℕ → List Row
  next e = rewritten (standing s) columns (taken_in e taken) (s.expression e)

  tidy_next : (e : ℕ) → e < standing s → Tidy (length s.numerals) (suc (standing s)) (next e)
  tidy_next e l =
      let t = z.tidy e l in
      let two = k.two in
      let q = rows_at s columns taken k e l in
      let b = behind_of s columns e taken k.behind in
      let f = t.few in
      let gone = has (covered (taken_in e taken)) in
      let old = s.expression e in
      record {
        few = subst (λ (n : ℕ). n ≤ 8) (sym q.2) (fewer (length (taken_in e taken)) (length columns) q.0 (omega arith) (omega (arith, q.1)));
        apart = distinct_append (without gone old) (map (stand_in (standing s) columns) (taken_in e taken)) (distinct_without gone old t.apart) (new columns two b)
            (All-weaker (Below (standing s)) _ (λ x w. All-map (Other x) (stand_in (standing s) columns) (taken_in e taken) (all_of _ (unlike x w) (taken_in e taken))) (without gone old)
            (all_without (Below (standing s)) gone old t.known));
        known = All-append (Below (suc (standing s))) (without gone old) _
            (all_without _ gone old (All-weaker _ _ (below_more (standing s)) old t.known))
            (All-map _ (stand_in (standing s) columns) (taken_in e taken)
            (All-weaker _ _ (λ u w. stand_in_below (length s.numerals) (standing s) old t columns u.co_kernel u.places w (standing s) (omega arith) (omega arith) (all_negative columns)) (taken_in e taken) b));
        low = All-append Low (without gone old) _
            (all_without _ gone old t.low)
            (All-map _ (stand_in (standing s) columns) (taken_in e taken)
            (All-weaker _ _ (λ u w. stand_in_low (length s.numerals) (standing s) old t columns u.co_kernel u.places w (standing s) k.letter_left two d (all_negative columns)) (taken_in e taken) b));
        held = All-append (Held (length s.numerals)) (without gone old) _
            (all_without _ gone old t.held)
            (All-map _ (stand_in (standing s) columns) (taken_in e taken)
            (All-weaker _ _ (λ u w. stand_in_held (length s.numerals) (standing s) old t columns u.co_kernel u.places w (standing s) (omega arith) (omega arith) (all_negative columns)) (taken_in e taken) b));
      }
    where
      new : (cs : List Row) → 2 ≤ length cs → AllByRecursion (λ (u : Taken). Behind (s.expression e) u.co_kernel u.places cs) (taken_in e taken) → Distinct (map (stand_in (standing s) cs) (taken_in e taken))
      new [] o b = absurd (omega arith)
      new (c ∷ cs) o b = stand_ins_distinct (standing s) (s.expression e) (z.tidy e l).apart c cs (taken_in e taken) b (k.once e l)

      unlike : (x : Row) → Below (standing s) x → (u : Taken) → Other x (stand_in (standing s) columns u)
      unlike x w u q = let o : letter (standing s) (standing s) ≡ 1 = letter_own (standing s) in
          omega (arith, w (standing s) (omega arith) k.letter_left, q (standing s) k.letter_left)

  tidy_part : Tidy (length s.numerals) (suc (standing s)) (part_rows columns)
  tidy_part = go taken k.some k.stands k.behind (λ e l. rows_at s columns taken k e l)
    where
      go : (ts : List Taken) → 1 ≤ length ts → AllByRecursion (λ (t : Taken). t.expression < standing s) ts
          → AllByRecursion (λ (t : Taken). Behind (s.expression t.expression) t.co_kernel t.places columns) ts
          → ((e : ℕ) → e < standing s → (rest : ℕ) × (length (s.expression e) ≡ length (taken_in e ts) * length columns + rest)
          × (length (rewritten (standing s) columns (taken_in e taken) (s.expression e)) ≡ length (taken_in e taken) + rest))
          → Tidy (length s.numerals) (suc (standing s)) (part_rows columns)
      go [] o st b r = absurd (omega arith)
      go (t ∷ ts) o st b r =
          let e = t.expression in
          let y = z.tidy e st.0 in
          let q = r e st.0 in
          let some : length (taken_in e (t ∷ ts)) ≡ suc (length (taken_in e ts)) = ap (λ (v : Bool). length (cond v (t ∷ taken_in e ts) (taken_in e ts))) (equal_refl e) in
          record {
            few = subst (λ (n : ℕ). n ≤ 8) (sym (part_length columns)) (at_least (length (taken_in e (t ∷ ts))) (length columns) q.0 (omega arith) (omega (arith, q.1, y.few)));
            apart = part_distinct columns d;
            known = part_all (Below (suc (standing s))) (λ _ w. w) columns
                (All-weaker _ _ (λ col w l h m. omega (arith, w l (omega arith) m)) columns
                (columns_below (length s.numerals) (standing s) (s.expression e) y columns t.co_kernel t.places b.0));
            held = part_all (Held (length s.numerals)) (λ _ w. w) columns
                (All-weaker _ _ (λ col w l h m. omega (arith, w l h m)) columns
                (columns_held (length s.numerals) (standing s) (s.expression e) y columns t.co_kernel t.places b.0));
            low = part_all Low (λ _ w. w) columns
                (All-weaker _ _ (λ col w. omega (arith, w)) columns
                (columns_low (length s.numerals) (standing s) (s.expression e) y columns t.co_kernel t.places b.0));
          }

pub factor_stays_closed : FactorStaysClosed
factor_stays_closed s columns taken k d z =
    closed_with s (λ e. rewritten (standing s) columns (taken_in e taken) (s.expression e)) (part_rows columns) k.letter_left
    (tidy_next s columns taken k d z) (tidy_part s columns taken k d z)
    (λ n l. ⊎_elim (λ q. absurd (omega (arith, z.positive_parts n l, (positives_at s columns taken k (16 + n) (omega arith)).1 q))) (λ q. omega arith)
    (cases_eq (positives (rewritten (standing s) columns (taken_in (16 + n) taken) (s.expression (16 + n)))) 0))
    (part_positives columns (omega (arith, k.two)))

-- share: some row is divided
pub up_to_some : (f : ℕ → ℕ) (n : ℕ) → 1 ≤ up_to counting n f → (k : ℕ) × (k < n) × (1 ≤ f k)
unfolding up_to
up_to_some f zero h = absurd (omega arith)
up_to_some f (suc n) h = ⊎_elim (λ e. let r = up_to_some f n (omega arith) in (r.0, omega (arith, r.1), r.2)) (λ e. (n, omega arith, positive_number (f n) e)) (cases_eq (f n) 0)
  where
    positive_number : (m : ℕ) → (m ≡ 0 → ⊥) → 1 ≤ m
    positive_number zero g = absurd (g refl)
    positive_number (suc m) g = omega arith

pub divided_some : (c : Powers) (e : List Row) → 1 ≤ divided c e → (i : ℕ) × (i < length e) × (divides_test c (row_in e i).cube ≡ true)
divided_some c [] h = absurd (omega arith)
divided_some c (r ∷ rs) h = go (divides_test c r.cube) refl h (divided_some c rs)
  where
    go : (b : Bool) → divides_test c r.cube ≡ b → 1 ≤ cond b 1 0 + divided c rs → (1 ≤ divided c rs → (i : ℕ) × (i < length rs) × (divides_test c (row_in rs i).cube ≡ true))
        → (i : ℕ) × (i < suc (length rs)) × (divides_test c (get_or (r ∷ rs) i nothing).cube ≡ true)
    go true e l f = (0, omega arith, e)
    go false e l f = let t = f (omega arith) in (suc t.0, omega (arith, t.1), t.2)

module _ (s : Style) (cube : Powers) (k : Shares s cube) (z : Closed s) where
  abbrev p : ℕ
  p = standing s

  share_below : (r : Row) → Below p r → Below (suc p) (shared_row p cube r)
  share_below r b l h m = go (divides_test cube r.cube)
    where
      go : (v : Bool) → cond v (product (quotient r.cube cube) (letter p)) r.cube l ≡ 0
      go true = let e : letter p l ≡ 0 = letter_other p l (λ q. omega arith) in omega (arith, b l (omega arith) m)
      go false = b l (omega arith) m

  share_held : (r : Row) → Held (length s.numerals) r → Held (length s.numerals) (shared_row p cube r)
  share_held r b l h m = go (divides_test cube r.cube)
    where
      go : (v : Bool) → cond v (product (quotient r.cube cube) (letter p)) r.cube l ≡ 0
      go true = let e : letter p l ≡ 0 = letter_other p l (λ q. omega arith) in omega (arith, b l h m)
      go false = b l h m

  share_low : (r : Row) → Low r → Low (shared_row p cube r)
  share_low r b = go (divides_test cube r.cube) refl
    where
      go : (v : Bool) → divides_test cube r.cube ≡ v → degree (cond v (product (quotient r.cube cube) (letter p)) r.cube) ≤ 25
      go true e =
          omega (arith, b, k.high, degree_product (quotient r.cube cube) (letter p), degree_letter p k.letter_left, degree_quotient cube r.cube ((divides_decides cube r.cube).0 e))
      go false e = b

  share_other : (r x : Row) → Below p r → Below p x → Other r x → Other (shared_row p cube r) (shared_row p cube x)
  share_other r x b c o = go (divides_test cube r.cube) refl (divides_test cube x.cube) refl
    where
      here : letter p p ≡ 1
      here = letter_own p

      go : (v : Bool) → divides_test cube r.cube ≡ v → (w : Bool) → divides_test cube x.cube ≡ w
          → Same (cond v (product (quotient r.cube cube) (letter p)) r.cube) (cond w (product (quotient x.cube cube) (letter p)) x.cube) → ⊥
      go true e true f q = o (λ l m. omega (arith, q l m, quotient_times r.cube cube e l m, quotient_times x.cube cube f l m))
      go true e false f q = omega (arith, q p k.letter_left, c p (omega arith) k.letter_left, here)
      go false e true f q = omega (arith, q p k.letter_left, b p (omega arith) k.letter_left, here)
      go false e false f q = o q

  share_distinct : (rows : List Row) → Distinct rows → AllByRecursion (Below p) rows → Distinct (map (shared_row p cube) rows)
  share_distinct [] d b = tt
  share_distinct (r ∷ rs) d b = (go rs d.0 b.1, share_distinct rs d.1 b.1)
    where
      go : (xs : List Row) → AllByRecursion (Other r) xs → AllByRecursion (Below p) xs → AllByRecursion (Other (shared_row p cube r)) (map (shared_row p cube) xs)
      go [] o c = tt
      go (x ∷ xs) o c = (share_other r x b.0 c.0 o.0, go xs o.1 c.1)

  tidy_shared : (e : ℕ) → e < standing s → Tidy (length s.numerals) (suc p) (map (shared_row p cube) (s.expression e))
  tidy_shared e l =
      let t = z.tidy e l in
      record {
        few = subst (λ (n : ℕ). n ≤ 8) (sym (length-map (s.expression e) (shared_row p cube))) t.few;
        apart = share_distinct (s.expression e) t.apart t.known;
        known = All-map (Below (suc p)) (shared_row p cube) (s.expression e) (All-weaker _ _ share_below (s.expression e) t.known);
        low = All-map Low (shared_row p cube) (s.expression e) (All-weaker _ _ share_low (s.expression e) t.low);
        held = All-map (Held (length s.numerals)) (shared_row p cube) (s.expression e) (All-weaker _ _ share_held (s.expression e) t.held);
      }

  tidy_cube : Tidy (length s.numerals) (suc p) (cube_part cube)
  tidy_cube =
      let a = up_to_some (λ e. divided cube (s.expression e)) (standing s) (omega (arith, k.rows)) in
      let i = divided_some cube (s.expression a.0) a.2 in
      let t = z.tidy a.0 a.1 in
      let r = get_or (s.expression a.0) i.0 nothing in
      record {
        few = omega arith;
        apart = (tt, tt);
        known = ((λ l h m. omega (arith, quotient_times r.cube cube i.2 l m, All-get_or (Below p) (s.expression a.0) i.0 nothing i.1 t.known l (omega arith) m)), tt);
        held = ((λ l h m. omega (arith, quotient_times r.cube cube i.2 l (omega arith), All-get_or (Held (length s.numerals)) (s.expression a.0) i.0 nothing i.1 t.held l h m)), tt);
        low = (omega (arith, degree_divisor cube r.cube ((divides_decides cube r.cube).0 i.2), All-get_or Low (s.expression a.0) i.0 nothing i.1 t.low), tt);
      }

pub share_stays_closed : ShareStaysClosed
share_stays_closed s cube k z =
    closed_with s (λ e. map (shared_row (standing s) cube) (s.expression e)) (cube_part cube) k.letter_left (tidy_shared s cube k z) (tidy_cube s cube k z)
    (λ n l. subst (λ (m : ℕ). 1 ≤ m) (sym (total_map counting (λ (r : Row). cond r.negative 0 1) (shared_row (standing s) cube) (s.expression (16 + n)))) (z.positive_parts n l))
    (omega arith)
