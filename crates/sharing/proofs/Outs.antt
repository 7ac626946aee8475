-- Sharing a cube out of a table.
use Rattle.std.proofs.Common.{◌≡◌, ℕ, ◌+◌, ◌<◌, ◌≤◌, Bool, true, false, cond, ◌||◌, ltb, List, [], ◌∷◌, ◌++◌, map, length, get_or, take, sym, refl, ap, ◌∙◌, subst, ap₂, subst₂, ⊎_elim, inl, Some, None, Option, arith}
use Rattle.std.specs.List.{AllZip}
use Rattle.std.specs.List.{take-map}
use Rattle.std.proofs.lemmas.List.{get_or-take, get_or_append_left, length-map, map-append}
use Rattle.std.proofs.lemmas.Bool.{cases_eq, lt-ltb}
use Rattle.cubes.specs.Expressions.{rows_of}
use Rattle.algebra.specs.Cubes.{Powers}
use Rattle.algebra.specs.Rows.{Alike, Row as Term, divides_test}
use Rattle.cubes.specs.declared.cube.Cube.{Cube}
use Rattle.cubes.specs.declared.expression.Expression.{Expression}
use Rattle.cubes.specs.declared.row.Row.{Row}
use Rattle.cubes.specs.declared.row.Sign.TheVariants.{Plus}
use Rattle.cubes.specs.Powers.{power}
use Rattle.cubes.specs.Rows.{as_rows}
use Rattle.rewriting.specs.Order.{any_divided, put, shared_from}
use Rattle.rewriting.specs.Share.{cube_part, divided, shared, shared_row}
use Rattle.rewriting.specs.Styles.{equal}
use Rattle.rewriting.proofs.Parts.{equal_apart, equal_refl}
use Rattle.sheet.specs.Numerals.{numerals_list}
use Rattle.table.specs.Adding.{AddsPart, source}
use Rattle.table.specs.declared.table.Table.{Table}
use Rattle.table.specs.Of.{order_of, rows_at, standing_in, style_of}
use Rattle.table.proofs.Looks.{rows_in}
use Rattle.sharing.specs.Out.{AllShared, NotShared, SharedOut}

-- a row is divided exactly where some are counted
pub any_counted : (c : Powers) (e : List Term) → ltb 0 (divided c e) ≡ any_divided c e
any_counted c [] = refl
any_counted c (x ∷ xs) = go (divides_test c x.cube) (any_counted c xs)
  where
    go : (b : Bool) → ltb 0 (divided c xs) ≡ any_divided c xs → ltb 0 (cond b 1 0 + divided c xs) ≡ (b || any_divided c xs)
    go true h = lt-ltb 0 (1 + divided c xs) (omega arith)
    go false h = ap (ltb 0) (let e : 0 + divided c xs ≡ divided c xs = omega arith in e) ∙ h

-- the order depends on which expressions are named alone
pub put_same : (f g : ℕ → Bool) → ((e : ℕ) → f e ≡ g e) → (p : ℕ) (xs : List ℕ) → put f p xs ≡ put g p xs
put_same f g h p [] = refl
put_same f g h p (x ∷ xs) = ap₂ (λ (b : Bool) (ys : List ℕ). cond b (p ∷ x ∷ xs) (x ∷ ys)) (h x) (put_same f g h p xs)

-- the cube is shared out of the first n of the expressions that stand, and the others are as they were
pub record SharedBelow (c : Powers) (n : ℕ) (old : Table) (new : List Expression) : Type 0 where
  pub long : length new ≡ standing_in old
  pub done : (e : ℕ) → e < n → AllZip Alike (as_rows (rows_in new e)) (map (shared_row (standing_in old) c) (as_rows (rows_at old e)))
  pub rest : (e : ℕ) → n ≤ e → e < standing_in old → rows_in new e ≡ rows_at old e

-- the rows of the expressions at the front of a list
pub rows_in_take : (n : ℕ) (es : List Expression) (e : ℕ) → e < n → rows_in (take n es) e ≡ rows_in es e
rows_in_take n es e l = ap (λ (xs : List (List Row)). get_or xs e []) (sym (take-map rows_of n es)) ∙ get_or-take n (map rows_of es) e [] l

pub rows_in_front : (xs ys : List Expression) (e : ℕ) → e < length xs → rows_in (xs ++ ys) e ≡ rows_in xs e
rows_in_front xs ys e l =
    ap (λ (zs : List (List Row)). get_or zs e []) (map-append rows_of xs ys) ∙ get_or_append_left (map rows_of xs) (map rows_of ys) [] e (omega (arith, l, length-map xs rows_of))

alike_turned : (xs ys : List Term) → AllZip Alike xs ys → AllZip Alike ys xs
alike_turned [] [] h = tt
alike_turned [] (y ∷ ys) h = absurd h
alike_turned (x ∷ xs) [] h = absurd h
alike_turned (x ∷ xs) (y ∷ ys) h = (record { sign = sym h.0.sign; cubes = λ l k. sym (h.0.cubes l k) }, alike_turned xs ys h.1)

-- the rows anew and the part: the table with the cube shared out
module _ (cube : Cube) (t u v : Table) (marks : List Bool) (part : List Row) where
  pub shared_out : AllShared (power cube) t u → AddsPart (source marks) part u v → part ≡ record { cube = cube; sign = Plus } ∷ []
      → ((e : ℕ) → source marks e ≡ shared_from (style_of t) (power cube) e) → SharedOut (power cube) t v
  shared_out a p is named = record {
    room = omega (arith, p.room, a.parts);
    style = record {
      numerals = ap numerals_list (sym (p.numerals ∙ a.numerals));
      parts = omega (arith, p.parts, a.parts);
      rows = λ e l. ⊎_elim (here e) (there e (omega arith)) (cases_eq e (standing_in t));
    };
    order = p.order ∙ put_same (source marks) (shared_from (style_of t) (power cube)) named (standing_in u) (order_of u)
        ∙ ap₂ (λ (n : ℕ) (xs : List ℕ). put (shared_from (style_of t) (power cube)) (16 + n) (take (16 + n) xs)) a.parts a.order;
  }
    where
      here : (e : ℕ) → e ≡ standing_in t → AllZip Alike ((shared (style_of t) (power cube)).expression e) (as_rows (rows_at v e))
      here e q =
          let n : standing_in u ≡ e = omega (arith, a.parts, q) in
          let rows : rows_at v e ≡ record { cube = cube; sign = Plus } ∷ [] = subst (λ (k : ℕ). rows_at v k ≡ record { cube = cube; sign = Plus } ∷ []) n (p.part_rows ∙ is) in
          let test : equal e (standing_in t) ≡ true = ap (equal e) (sym q) ∙ equal_refl e in
          subst₂ (λ (b : Bool) (xs : List Row). AllZip Alike (cond b (cube_part (power cube)) (map (shared_row (standing_in t) (power cube)) ((style_of t).expression e))) (as_rows xs)) (sym test) (sym rows)
          (record { sign = refl; cubes = λ l k. refl }, tt)

      there : (e : ℕ) → e ≤ standing_in t → (e ≡ standing_in t → ⊥) → AllZip Alike ((shared (style_of t) (power cube)).expression e) (as_rows (rows_at v e))
      there e l q =
          let less : e < standing_in t = omega arith in
          let test : equal e (standing_in t) ≡ false = equal_apart e (standing_in t) q in
          subst₂ (λ (b : Bool) (xs : List Row). AllZip Alike (cond b (cube_part (power cube)) (map (shared_row (standing_in t) (power cube)) ((style_of t).expression e))) (as_rows xs)) (sym test) (sym (p.rows e (omega (arith, a.parts))))
          (alike_turned (as_rows (rows_at u e)) (map (shared_row (standing_in t) (power cube)) (as_rows (rows_at t e))) (a.rows e less))

-- the part put into the rows anew, or there is no room for it
pub share_ends : (cube : Cube) (t u : Table) (marks : List Bool) (part : List Row) (r : Option Table) → AllShared (power cube) t u
    → elim r as (λ _. Type 0) [ Some v ↦ AddsPart (source marks) part u v | None ↦ u.parts ≡ 16 ] → part ≡ record { cube = cube; sign = Plus } ∷ []
    → ((e : ℕ) → source marks e ≡ shared_from (style_of t) (power cube) e) → elim r as (λ _. Type 0) [ Some v ↦ SharedOut (power cube) t v | None ↦ NotShared t ]
share_ends cube t u marks part None a h is named = inl (sym a.parts ∙ h)
share_ends cube t u marks part (Some v) a h is named = shared_out cube t u v marks part a h is named
