-- Where a kernel has a column: by its card, and by its expression.
use Rattle.std.proofs.Common.{◌≡◌, ℕ, suc, ◌+◌, ◌*◌, ◌<◌, ◌≤◌, Bool, true, false, cond, not, ◌&&◌, ◌||◌, eqb, List, [], ◌∷◌, ◌++◌, map, length, Some, None, Decides, Option, sym, refl, ap, ◌∙◌, ap₂, arith}
use Rattle.std.proofs.lemmas.List.{append-nil}
use Rattle.std.proofs.lemmas.Bool.{and_parts}
use Rattle.std.proofs.lemmas.Bool.Decides.{Decides-and, Decides-eqb, Decides-like, same_from_decides}
use Rattle.algebra.specs.Cubes.{Powers}
use Rattle.algebra.specs.Rows.{Row, degree, divides_test, multiples, quotient_row, quotients}
use Rattle.choosing.specs.declared.column.Column.{Column}
use Rattle.choosing.specs.Taken.{clear, cover, fits, row_of, with_row}
use Rattle.rewriting.specs.Factor.{Taken, covered, has, product_row, taken_in}
use Rattle.rewriting.specs.Styles.{Style, equal}
use Rattle.rewriting.specs.Taking.{Kernel, alike, found, has_columns, spot, spots, take_of, takes_next, uncovered}
use Rattle.rewriting.proofs.Parts.{equal_refl, equal_true}
use Rattle.dealing.specs.Cards.{Named, column_of, columns_of}
use Rattle.table.proofs.Alikes.{alike_divided, alike_quotient}
use Rattle.dealing.proofs.Namings.{name_tells, spot_found}

-- a column of a card tells a row: its name and its degree are those of the row
pub record Tells (names : List Row) (x : Column) (r : Row) : Type 0 where
  pub named : found names r ≡ true
  pub name : x.name ≡ spot names r
  pub degree : x.degree ≡ degree r.cube

abbrev pub AllTell : List Row → List Column → List Row → Type 0
AllTell names [] [] = Unit {0}
AllTell names [] (r ∷ rs) = ⊥
AllTell names (x ∷ xs) [] = ⊥
AllTell names (x ∷ xs) (r ∷ rs) = Tells names x r × AllTell names xs rs

-- the row behind a column, by the card
module _ (names : List Row) (c : Powers) (col : Row) (named : found names col ≡ true) where
  pub row_is : (p : ℕ) (rs : List Row) → Named names (quotients c rs)
      → row_of (spot names col) (columns_of names c p rs) ≡ cond (found rs (product_row c col)) (Some (p + spot rs (product_row c col))) None
  row_is p [] a = refl
  row_is p (r ∷ rs) a = go (divides_test c r.cube) refl a (row_is (suc p) rs)
    where
      next : (b f : Bool) (k : ℕ) (o : Option ℕ) → o ≡ cond f (Some (suc p + k)) None → cond b (Some p) o ≡ cond (b || f) (Some (p + cond b 0 (suc k))) None
      next true f k o h = ap Some (omega arith)
      next false true k o h = h ∙ ap Some (omega arith)
      next false false k o h = h

      go : (t : Bool) → divides_test c r.cube ≡ t → Named names (map (quotient_row c) (cond t (r ∷ multiples c rs) (multiples c rs)))
          → (Named names (quotients c rs) → row_of (spot names col) (columns_of names c (suc p) rs) ≡ cond (found rs (product_row c col)) (Some (suc p + spot rs (product_row c col))) None)
          → row_of (spot names col) (cond t (column_of names c p r ∷ columns_of names c (suc p) rs) (columns_of names c (suc p) rs))
          ≡ cond (found (r ∷ rs) (product_row c col)) (Some (p + spot (r ∷ rs) (product_row c col))) None
      go true e b rest =
          ap (λ (v : Bool). cond v (Some p) (row_of (spot names col) (columns_of names c (suc p) rs)))
          (name_tells names (quotient_row c r) col b.0 named ∙ alike_quotient c r col e)
          ∙ next (alike r (product_row c col)) _ _ _ (rest b.1)
      go false e b rest =
          next false (found rs (product_row c col)) (spot rs (product_row c col)) _ (rest b)
          ∙ ap (λ (v : Bool). cond (v || found rs (product_row c col)) (Some (p + cond v 0 (suc (spot rs (product_row c col))))) None) (sym (alike_divided c r col e))

-- places of rows, eight to an expression
equal_decides : (m n : ℕ) → Decides (equal m n) (m ≡ n)
equal_decides m n = (equal_true m n, (λ e. ap (equal m) (sym e) ∙ equal_refl m))

pub place_tells : (e k e' k' : ℕ) → k < 8 → k' < 8 → eqb (8 * e + k) (8 * e' + k') ≡ (equal e e' && equal k k')
place_tells e k e' k' h h' =
    same_from_decides {P = (e ≡ e') × (k ≡ k')} (eqb (8 * e + k) (8 * e' + k')) (equal e e' && equal k k')
    (Decides-like (eqb (8 * e + k) (8 * e' + k')) (λ q. ((omega arith), (omega arith))) (λ q. omega (arith, q.0, q.1)) (Decides-eqb (8 * e + k) (8 * e' + k')))
    (Decides-and (equal e e') (equal k k') (equal_decides e e') (equal_decides k k'))

-- places gathered
or_assoc : (x y z : Bool) → ((x || y) || z) ≡ (x || (y || z))
or_assoc true y z = refl
or_assoc false y z = refl

has_append : (xs ys : List ℕ) (k : ℕ) → has (xs ++ ys) k ≡ (has xs k || has ys k)
has_append [] ys k = refl
has_append (x ∷ xs) ys k = ap (λ (b : Bool). equal k x || b) (has_append xs ys k) ∙ sym (or_assoc (equal k x) (has xs k) (has ys k))

covered_push : (e k : ℕ) (ts : List Taken) (t : Taken)
    → has (covered (taken_in e (ts ++ t ∷ []))) k ≡ (has (covered (taken_in e ts)) k || (equal e t.expression && has t.places k))
covered_push e k [] t = go (equal e t.expression)
  where
    go : (b : Bool) → has (covered (cond b (t ∷ []) [])) k ≡ (b && has t.places k)
    go true = ap (λ (ks : List ℕ). has ks k) (append-nil t.places)
    go false = refl
covered_push e k (u ∷ us) t = go (equal e u.expression) _ _ _ (covered_push e k us t)
  where
    go : (b : Bool) (xs ys : List Taken) (w : Bool) → has (covered xs) k ≡ (has (covered ys) k || w) → has (covered (cond b (u ∷ xs) xs)) k ≡ (has (covered (cond b (u ∷ ys) ys)) k || w)
    go true xs ys w h =
        has_append u.places (covered xs) k ∙ ap (λ (v : Bool). has u.places k || v) h ∙ sym (or_assoc (has u.places k) (has (covered ys) k) w)
        ∙ ap (λ (v : Bool). v || w) (sym (has_append u.places (covered ys) k))
    go false xs ys w h = h

-- the walk's covered rows are the places covered by the kernels taken
abbrev pub Agrees : (ℕ → Bool) → List Taken → Type 0
Agrees over taken = (e k : ℕ) → k < 8 → over (8 * e + k) ≡ has (covered (taken_in e taken)) k

module _ (names : List Row) (s : Style) (few : (e : ℕ) → length (s.expression e) ≤ 8) (k : Kernel) (named : Named names (quotients k.co_kernel (s.expression k.expression))) where
  abbrev rows : List Row
  rows = s.expression k.expression

  abbrev mine : List Column
  mine = columns_of names k.co_kernel (8 * k.expression) rows

  row_at : (x : Column) (col : Row) → Tells names x col → row_of x.name mine ≡ cond (found rows (product_row k.co_kernel col)) (Some (8 * k.expression + spot rows (product_row k.co_kernel col))) None
  row_at x col t = ap (λ (n : ℕ). row_of n mine) t.name ∙ row_is names k.co_kernel col t.named (8 * k.expression) rows named

  low : (col : Row) → found rows (product_row k.co_kernel col) ≡ true → spot rows (product_row k.co_kernel col) < 8
  low col f = omega (arith, (spot_found rows (product_row k.co_kernel col) f).0, few k.expression)

  -- the card can be taken just where the kernel is
  pub fits_next : (over : ℕ → Bool) (taken : List Taken) → Agrees over taken → (set : List Column) (cols : List Row) → AllTell names set cols → fits over mine set ≡ takes_next s cols taken k
  fits_next over taken a [] [] t = refl
  fits_next over taken a [] (col ∷ cols) t = absurd t
  fits_next over taken a (x ∷ set) [] t = absurd t
  fits_next over taken a (x ∷ set) (col ∷ cols) t =
      ap₂ (λ (o : Option ℕ) (v : Bool). clear over o && v) (row_at x col t.0) (fits_next over taken a set cols t.1)
      ∙ go (found rows (product_row k.co_kernel col)) refl
    where
      turn : (n h u : Bool) → (n && (h && u)) ≡ (h && (n && u))
      turn true h u = refl
      turn false true u = refl
      turn false false u = refl

      go : (f : Bool) → found rows (product_row k.co_kernel col) ≡ f
          → (clear over (cond f (Some (8 * k.expression + spot rows (product_row k.co_kernel col))) None)
          && (has_columns rows k.co_kernel cols && uncovered (covered (taken_in k.expression taken)) (spots rows k.co_kernel cols)))
          ≡ ((f && has_columns rows k.co_kernel cols)
          && (not (has (covered (taken_in k.expression taken)) (spot rows (product_row k.co_kernel col))) && uncovered (covered (taken_in k.expression taken)) (spots rows k.co_kernel cols)))
      go true e =
          ap (λ (v : Bool). not v && (has_columns rows k.co_kernel cols && uncovered (covered (taken_in k.expression taken)) (spots rows k.co_kernel cols)))
          (a k.expression (spot rows (product_row k.co_kernel col)) (low col e))
          ∙ turn _ (has_columns rows k.co_kernel cols) _
      go false e = refl

  -- what it covers then
  cover_has : (over : ℕ → Bool) (set : List Column) (cols : List Row) → AllTell names set cols → has_columns rows k.co_kernel cols ≡ true
      → (e j : ℕ) → j < 8 → cover over mine set (8 * e + j) ≡ (over (8 * e + j) || (equal e k.expression && has (spots rows k.co_kernel cols) j))
  cover_has over [] [] t h e j l = nothing (over (8 * e + j)) (equal e k.expression)
    where
      nothing : (o b : Bool) → o ≡ (o || (b && false))
      nothing true b = refl
      nothing false true = refl
      nothing false false = refl
  cover_has over [] (col ∷ cols) t h e j l = absurd t
  cover_has over (x ∷ set) [] t h e j l = absurd t
  cover_has over (x ∷ set) (col ∷ cols) t h e j l =
      let hs = and_parts (found rows (product_row k.co_kernel col)) (has_columns rows k.co_kernel cols) h in
      let i = spot rows (product_row k.co_kernel col) in
      let here : row_of x.name mine ≡ Some (8 * k.expression + i) =
      row_at x col t.0 ∙ ap (λ (v : Bool). cond v (Some (8 * k.expression + i)) None) hs.0 in
      ap (λ (o : Option ℕ). cover (with_row over o) mine set (8 * e + j)) here
      ∙ cover_has (with_row over (Some (8 * k.expression + i))) set cols t.1 hs.1 e j l
      ∙ ap (λ (v : Bool). (v || over (8 * e + j)) || (equal e k.expression && has (spots rows k.co_kernel cols) j)) (place_tells e j k.expression i l (low col hs.0))
      ∙ turn (equal e k.expression) (equal j i) (over (8 * e + j)) _
    where
      turn : (a b o h : Bool) → (((a && b) || o) || (a && h)) ≡ (o || (a && (b || h)))
      turn true true true h = refl
      turn true true false h = refl
      turn true false true h = refl
      turn true false false h = refl
      turn false b true h = refl
      turn false b false h = refl

  pub agrees_more : (over : ℕ → Bool) (taken : List Taken) → Agrees over taken → (set : List Column) (cols : List Row) → AllTell names set cols
      → takes_next s cols taken k ≡ true → Agrees (cover over mine set) (taken ++ take_of s cols k ∷ [])
  agrees_more over taken a set cols t h e j l =
      cover_has over set cols t (and_parts (has_columns rows k.co_kernel cols) _ h).0 e j l
      ∙ ap (λ (v : Bool). v || (equal e k.expression && has (spots rows k.co_kernel cols) j)) (a e j l)
      ∙ sym (covered_push e j taken (take_of s cols k))
