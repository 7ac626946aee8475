-- Cards stay where names are added, and grow by rows and by kernels.
use Rattle.std.proofs.Common.{◌≡◌, ℕ, suc, ◌+◌, ◌*◌, ◌<◌, ◌≤◌, Bool, true, false, cond, List, [], ◌∷◌, ◌++◌, map, length, get_or, take, Some, None, Option, sym, refl, ap, ◌∙◌, subst, ap₂, arith}
use Rattle.std.proofs.lemmas.List.Elements.{filter-append}
use Rattle.std.proofs.ByRecursion.{All-append, All-weaker}
use Rattle.std.proofs.lemmas.List.{append_assoc, append-nil, length-map, length-take-le, map-append, map_more}
use Rattle.algebra.specs.Cubes.{Powers}
use Rattle.algebra.specs.Rows.{Alike, Row, degree, divides_test, multiples, quotient_row, quotients}
use Rattle.algebra.proofs.Degrees.{degree_same}
use Rattle.choosing.specs.declared.card.Card.{Card}
use Rattle.choosing.specs.declared.column.Column.{Column}
use Rattle.cubes.specs.declared.row.Row.{Row as Coded}
use Rattle.cubes.specs.Powers.{power}
use Rattle.cubes.specs.Rows.{as_row, as_rows}
use Rattle.rewriting.specs.Styles.{Style}
use Rattle.rewriting.specs.Taking.{Kernel, found, spot}
use Rattle.dealing.specs.Cards.{Deals, Dealt, Named, column_of, columns_of}
use Rattle.dealing.specs.Dealing.{AddsCard, AddsColumn, IsColumn, one_or_none}
use Rattle.dealing.specs.Naming.{Grown, Naming}
use Rattle.dealing.proofs.Namings.{found_more, found_same, spot_more, spot_same}

-- names are added
pub grown_none : (xs : List Row) → Grown xs xs
grown_none xs = ([], sym (append-nil xs))

pub grown_on : (xs ys zs : List Row) → Grown xs ys → Grown ys zs → Grown xs zs
grown_on xs ys zs g h = (g.0 ++ h.0, h.1 ∙ ap (λ (l : List Row). l ++ h.0) g.1 ∙ append_assoc xs g.0 h.0)

naming_grown : (old : List Row) (r : Row) (n : ℕ) (new : List Row) → Naming old r n new → Grown old new
naming_grown old r n new h = go (found old r) h.kept
  where
    go : (b : Bool) → new ≡ cond b old (old ++ r ∷ []) → Grown old new
    go true e = ([], e ∙ sym (append-nil old))
    go false e = (r ∷ [], e)

-- the column of one row
pub some_column : (old new : List Row) (c : Powers) (p : ℕ) (r : Row) (q : Coded) (n d : ℕ)
    → (divides_test c r.cube ≡ true) × Alike (quotient_row c r) (as_row q)
    → Naming old (as_row q) n new → d ≡ degree (power q.cube) → AddsColumn old c p r (Some (record { name = n; row = p; degree = d })) new
some_column old new c p r q n d h g e = record {
  grown = naming_grown old _ n new g;
  is = (
    h.0,
    found_same new _ _ h.1 ∙ g.named,
    ap₂ (λ (m k : ℕ). record { name = m; row = p; degree = k }) (g.name ∙ sym (spot_same new _ _ h.1)) (e ∙ sym (degree_same _ _ h.1.cubes)),
  );
}

-- what was named stays, and so do the columns
module _ (old new : List Row) (g : Grown old new) where
  named_stays : (rs : List Row) → Named old rs → Named new rs
  named_stays rs a = All-weaker _ _ (λ r h. ap (λ (xs : List Row). found xs r) g.1 ∙ found_more old g.0 r h) rs a

  columns_stay : (c : Powers) (p : ℕ) (rs : List Row) → Named old (quotients c rs) → columns_of new c p rs ≡ columns_of old c p rs
  columns_stay c p [] a = refl
  columns_stay c p (r ∷ rs) a = go (divides_test c r.cube) a (columns_stay c (suc p) rs)
    where
      go : (t : Bool) → Named old (map (quotient_row c) (cond t (r ∷ multiples c rs) (multiples c rs)))
          → (Named old (quotients c rs) → columns_of new c (suc p) rs ≡ columns_of old c (suc p) rs)
          → cond t (column_of new c p r ∷ columns_of new c (suc p) rs) (columns_of new c (suc p) rs)
          ≡ cond t (column_of old c p r ∷ columns_of old c (suc p) rs) (columns_of old c (suc p) rs)
      go true b rest =
          ap₂ (λ (n : ℕ) (xs : List Column). record { name = n; row = p; degree = (column_of old c p r).degree } ∷ xs)
          (ap (λ (xs : List Row). spot xs (quotient_row c r)) g.1 ∙ spot_more old g.0 (quotient_row c r) b.0) (rest b.1)
      go false b rest = rest b

  pub dealt_stays : (s : Style) (k : Kernel) (x : Card) → Dealt old s k x → Dealt new s k x
  dealt_stays s k x d = record {
    degree = d.degree;
    columns = d.columns ∙ sym (columns_stay k.co_kernel (8 * k.expression) (s.expression k.expression) d.named);
    named = named_stays _ d.named;
  }

  deals_stay : (s : Style) (ks : List Kernel) (xs : List Card) → Deals old s ks xs → Deals new s ks xs
  deals_stay s [] [] d = tt
  deals_stay s [] (x ∷ xs) d = absurd d
  deals_stay s (k ∷ ks) [] d = absurd d
  deals_stay s (k ∷ ks) (x ∷ xs) d = (dealt_stays s k x d.0, deals_stay s ks xs d.1)

-- one row more
columns_append : (names : List Row) (c : Powers) (p : ℕ) (rs ss : List Row) → columns_of names c p (rs ++ ss) ≡ columns_of names c p rs ++ columns_of names c (p + length rs) ss
columns_append names c p [] ss = ap (λ (n : ℕ). columns_of names c n ss) (omega arith)
columns_append names c p (r ∷ rs) ss =
    go (divides_test c r.cube) _ _ (columns_append names c (suc p) rs ss ∙ ap (λ (n : ℕ). columns_of names c (suc p) rs ++ columns_of names c n ss) (omega arith))
  where
    go : (t : Bool) (xs ys : List Column) → xs ≡ columns_of names c (suc p) rs ++ ys
        → cond t (column_of names c p r ∷ xs) xs ≡ cond t (column_of names c p r ∷ columns_of names c (suc p) rs) (columns_of names c (suc p) rs) ++ ys
    go true xs ys h = ap (λ (l : List Column). column_of names c p r ∷ l) h
    go false xs ys h = h

quotients_append : (c : Powers) (rs ss : List Row) → quotients c (rs ++ ss) ≡ quotients c rs ++ quotients c ss
quotients_append c rs ss =
    ap (map (quotient_row c)) (filter-append (λ (r : Row). divides_test c r.cube) rs ss) ∙ map-append (quotient_row c) (multiples c rs) (multiples c ss)

one_column : (names : List Row) (c : Powers) (p : ℕ) (r : Row) (o : Option Column) → IsColumn names c p r o
    → (one_or_none o ≡ columns_of names c p (r ∷ [])) × Named names (quotients c (r ∷ []))
one_column names c p r None h = (
  sym (ap (λ (t : Bool). cond t (column_of names c p r ∷ []) []) h),
  subst (λ (t : Bool). Named names (map (quotient_row c) (cond t (r ∷ []) []))) (sym h) tt,
)
one_column names c p r (Some x) h = (
  ap (λ (y : Column). y ∷ []) h.2 ∙ sym (ap (λ (t : Bool). cond t (column_of names c p r ∷ []) []) h.0),
  subst (λ (t : Bool). Named names (map (quotient_row c) (cond t (r ∷ []) []))) (sym h.0) (h.1, tt),
)

columns_more : (old new : List Row) (c : Powers) (p : ℕ) (rs : List Row) (r : Row) (o : Option Column) (xs : List Column)
    → xs ≡ columns_of old c p rs → Named old (quotients c rs) → AddsColumn old c (p + length rs) r o new
    → (xs ++ one_or_none o ≡ columns_of new c p (rs ++ r ∷ [])) × Named new (quotients c (rs ++ r ∷ []))
columns_more old new c p rs r o xs e a h =
    let one = one_column new c (p + length rs) r o h.is in (
      (
          ap₂ ◌++◌ (e ∙ sym (columns_stay old new h.grown c p rs a)) one.0
          ∙ sym (columns_append new c p rs (r ∷ []))
          ),
      subst (Named new) (sym (quotients_append c rs (r ∷ []))) (All-append _ (quotients c rs) (quotients c (r ∷ [])) (named_stays old new h.grown _ a) one.1),
    )

pub rows_more : (old new : List Row) (c : Powers) (p : ℕ) (rows : List Coded) (k : ℕ) (d : Coded) → k < length rows → (o : Option Column) (xs ys : List Column)
    → xs ≡ columns_of old c p (as_rows (take k rows)) → Named old (quotients c (as_rows (take k rows)))
    → AddsColumn old c (p + k) (as_row (get_or rows k d)) o new → ys ≡ xs ++ one_or_none o
    → (ys ≡ columns_of new c p (as_rows (take (k + 1) rows))) × Named new (quotients c (as_rows (take (k + 1) rows)))
rows_more old new c p rows k d h o xs ys e a g f =
    let many : length (as_rows (take k rows)) ≡ k = length-map (take k rows) as_row ∙ length-take-le k rows (omega arith) in
    let more = columns_more old new c p (as_rows (take k rows)) (as_row (get_or rows k d)) o xs e a
    (subst (λ (n : ℕ). AddsColumn old c (p + n) (as_row (get_or rows k d)) o new) (sym many) g) in
    let next : as_rows (take k rows) ++ as_row (get_or rows k d) ∷ [] ≡ as_rows (take (k + 1) rows) = sym (map_more as_row rows k d h) in (
      (f ∙ more.0 ∙ ap (columns_of new c p) next),
      subst (λ (rs : List Row). Named new (quotients c rs)) next more.1,
    )

columns_few : (names : List Row) (c : Powers) (p : ℕ) (rs : List Row) → length (columns_of names c p rs) ≤ length rs
columns_few names c p [] = omega arith
columns_few names c p (r ∷ rs) = go (divides_test c r.cube) (columns_few names c (suc p) rs)
  where
    go : (t : Bool) → length (columns_of names c (suc p) rs) ≤ length rs
        → length (cond t (column_of names c p r ∷ columns_of names c (suc p) rs) (columns_of names c (suc p) rs)) ≤ suc (length rs)
    go true h = omega arith
    go false h = omega arith

pub rows_few : (names : List Row) (c : Powers) (p : ℕ) (rows : List Coded) (k : ℕ) → k < length rows → (xs : List Column) → xs ≡ columns_of names c p (as_rows (take k rows)) → length xs ≤ k
rows_few names c p rows k h xs e =
    let many : length (as_rows (take k rows)) ≡ k = length-map (take k rows) as_row ∙ length-take-le k rows (omega arith) in
    omega (arith, ap length e, columns_few names c p (as_rows (take k rows)))

-- one kernel more
deals_push : (names : List Row) (s : Style) (ks : List Kernel) (xs : List Card) (k : Kernel) (x : Card) → Deals names s ks xs → Dealt names s k x → Deals names s (ks ++ k ∷ []) (xs ++ x ∷ [])
deals_push names s [] [] k x d h = (h, tt)
deals_push names s [] (y ∷ ys) k x d h = absurd d
deals_push names s (j ∷ ks) [] k x d h = absurd d
deals_push names s (j ∷ ks) (y ∷ ys) k x d h = (d.0, deals_push names s ks ys k x d.1 h)

pub deals_more : (old new : List Row) (s : Style) (ks : List Kernel) (xs : List Card) (k : Kernel) (x : Card) → Deals old s ks xs → AddsCard old s k x new → Deals new s (ks ++ k ∷ []) (xs ++ x ∷ [])
deals_more old new s ks xs k x d h = deals_push new s ks xs k x (deals_stay old new h.grown s ks xs d) h.dealt
