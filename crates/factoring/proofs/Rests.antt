-- What is left of an expression's rows, and what is appended.
use Rattle.std.proofs.Common.{◌≡◌, ℕ, suc, ◌+◌, ◌<◌, ◌≤◌, Bool, true, false, cond, List, [], ◌∷◌, ◌++◌, map, length, get_or, drop, sym, refl, ap, ◌∙◌, subst, add-zero, Some, None, Option, Ok, Err, Result, arith}
use Rattle.std.specs.List.{AllZip, ContainsAt as Has}
use Rattle.std.proofs.lemmas.List.{append_assoc, append-nil, at_drop_all, at_drop_more, get_or-map, length-map, map_push}
use Rattle.std.proofs.lemmas.List.Elements.{AllZip-get_or, length_all_zip}
use Rattle.algebra.specs.Cubes.{Powers, letters, unit}
use Rattle.algebra.specs.Rows.{Alike, Distinct, Row as Term, cube_in}
use Rattle.algebra.proofs.Apart.{distinct_at}
use Rattle.algebra.proofs.Degrees.{same_refl}
use Rattle.rewriting.specs.Factor.{taken_in, without}
use Rattle.rewriting.specs.Styles.{equal}
use Rattle.rewriting.proofs.Parts.{equal_apart}
use Rattle.std.specs.Result.{result_ok}
use Rattle.cubes.specs.Expressions.{Unfit, rows_of}
use Rattle.cubes.specs.declared.expression.Expression.{Expression}
use Rattle.cubes.specs.Rows.{Apart, as_row, as_rows, no_row, powers_at}
use Rattle.cubes.specs.declared.expression.Refused.{Refused}
use Rattle.cubes.specs.declared.row.Row.{Row}
use Rattle.cubes.proofs.Made.{fits}
use Rattle.factoring.specs.Rewrites.{Crowded, part_row}
use Rattle.factoring.specs.Takens.{as_taken, as_takens}
use Rattle.factoring.specs.declared.taken.TakenKernel.{TakenKernel}
use Rattle.factoring.proofs.Covers.{equal_from}

without_same : (f g : ℕ → Bool) → ((j : ℕ) → f j ≡ g j) → (xs : List Term) → without f xs ≡ without g xs
without_same f g h [] = refl
without_same f g h (x ∷ xs) =
    ap (λ (b : Bool). cond b (without (λ k. f (suc k)) xs) (x ∷ without (λ k. f (suc k)) xs)) (h 0)
    ∙ ap (λ (ys : List Term). cond (g 0) ys (x ∷ ys)) (without_same (λ k. f (suc k)) (λ k. g (suc k)) (λ j. h (suc j)) xs)

-- what is left of the rows from i on
abbrev pub still : (ℕ → Bool) → List Row → ℕ → List Term
still gone rows i = without (λ j. gone (i + j)) (as_rows (drop i rows))

module _ (gone : ℕ → Bool) (rows : List Row) where
  pub still_first : still gone rows 0 ≡ without gone (as_rows rows)
  still_first = without_same (λ j. gone (0 + j)) gone (λ j. let e : 0 + j ≡ j = omega arith in ap gone e) (as_rows rows)

  pub still_end : (i : ℕ) → length rows ≤ i → still gone rows i ≡ []
  still_end i h = at_drop_all (λ (xs : List Row). without (λ j. gone (i + j)) (as_rows xs)) rows i h

  module _ (i : ℕ) (h : i < length rows) where
    still_step : (b : Bool) → gone i ≡ b → still gone rows i ≡ cond b (still gone rows (i + 1)) (as_row (get_or rows i no_row) ∷ still gone rows (i + 1))
    still_step b e =
        at_drop_more (λ (xs : List Row). without (λ j. gone (i + j)) (as_rows xs)) rows i no_row h
        ∙ ap (λ (v : Bool). cond v (without (λ j. gone (i + suc j)) rest) (as_row (get_or rows i no_row) ∷ without (λ j. gone (i + suc j)) rest)) (ap gone (add-zero i) ∙ e)
        ∙ ap (λ (ys : List Term). cond b ys (as_row (get_or rows i no_row) ∷ ys))
        (without_same (λ j. gone (i + suc j)) (λ j. gone (i + 1 + j)) (λ j. let q : i + suc j ≡ i + 1 + j = omega arith in ap gone q) rest)
      where
        rest : List Term
        rest = as_rows (drop (i + 1) rows)

    pub still_out : gone i ≡ true → still gone rows (i + 1) ≡ still gone rows i
    still_out e = sym (still_step true e)

    pub still_in : gone i ≡ false → (items : List Row) → as_rows (items ++ get_or rows i no_row ∷ []) ++ still gone rows (i + 1) ≡ as_rows items ++ still gone rows i
    still_in e items =
        ap (λ (ys : List Term). ys ++ still gone rows (i + 1)) (map_push as_row items (get_or rows i no_row))
        ∙ append_assoc (as_rows items) (as_row (get_or rows i no_row) ∷ []) (still gone rows (i + 1))
        ∙ ap (λ (ys : List Term). as_rows items ++ ys) (sym (still_step false e))

-- ---- the products

each_behind : (xs ys zs : List Term) → AllZip Alike ys zs → AllZip Alike (xs ++ ys) (xs ++ zs)
each_behind [] ys zs e = e
each_behind (x ∷ xs) ys zs e = (record { sign = refl; cubes = same_refl x.cube }, each_behind xs ys zs e)

abbrev pub products : Bool → Powers → ℕ → List TakenKernel → List Term
products negative part e ts = map (part_row negative part) (taken_in e (as_takens ts))

-- the base with all products is what was appended so far, and the products still to come
abbrev pub Appending : Bool → Powers → ℕ → List TakenKernel → List Term → ℕ → List Row → Type 0
Appending negative part e ts base i items =
    (ys : List Term) → AllZip Alike (products negative part e (drop i ts)) ys → AllZip Alike (base ++ products negative part e ts) (as_rows items ++ ys)

module _ (negative : Bool) (part : Powers) (e : ℕ) (ts : List TakenKernel) where
  pub append_first : (items : List Row) → Appending negative part e ts (as_rows items) 0 items
  append_first items ys w = each_behind (as_rows items) (products negative part e ts) ys w

  pub append_end : (base : List Term) (i : ℕ) (items : List Row) → length ts ≤ i → Appending negative part e ts base i items → AllZip Alike (base ++ products negative part e ts) (as_rows items)
  append_end base i items h on =
      subst (AllZip Alike (base ++ products negative part e ts)) (append-nil (as_rows items))
      (on [] (subst (λ (zs : List Term). AllZip Alike zs []) (sym (at_drop_all (products negative part e) ts i h)) tt))

  module _ (base : List Term) (i : ℕ) (items : List Row) (t : TakenKernel) (h : i < length ts) (is : t ≡ get_or ts i t) (on : Appending negative part e ts base i items) where
    products_step : (b : Bool) → equal e t.expression ≡ b
        → products negative part e (drop i ts) ≡ map (part_row negative part) (cond b (as_taken t ∷ taken_in e (as_takens (drop (i + 1) ts))) (taken_in e (as_takens (drop (i + 1) ts))))
    products_step b q =
        at_drop_more (products negative part e) ts i t h ∙ ap (λ (u : TakenKernel). products negative part e (u ∷ drop (i + 1) ts)) (sym is)
        ∙ ap (λ (v : Bool). map (part_row negative part) (cond v (as_taken t ∷ taken_in e (as_takens (drop (i + 1) ts))) (taken_in e (as_takens (drop (i + 1) ts))))) q

    pub append_other : (t.expression ≡ e → ⊥) → Appending negative part e ts base (i + 1) items
    append_other n ys w = on ys (subst (λ (zs : List Term). AllZip Alike zs ys) (sym (products_step false (equal_apart e t.expression (λ q. n (sym q))))) w)

    pub append_own : t.expression ≡ e → (x : Row) → Alike (part_row negative part (as_taken t)) (as_row x) → Appending negative part e ts base (i + 1) (items ++ x ∷ [])
    append_own q x a ys w =
        subst (AllZip Alike (base ++ products negative part e ts))
        (sym (ap (λ (zs : List Term). zs ++ ys) (map_push as_row items x) ∙ append_assoc (as_rows items) (as_row x ∷ []) ys))
        (on (as_row x ∷ ys) (subst (λ (zs : List Term). AllZip Alike zs (as_row x ∷ ys)) (sym (products_step true (equal_from e t.expression (sym q)))) (a, w)))

pub taken_has : (ts : List TakenKernel) (i : ℕ) (t : TakenKernel) → i < length ts → t ≡ get_or ts i t → Has (as_takens ts) (as_taken t)
taken_has ts i t h is = (i, omega (arith, length-map ts as_taken), λ d. get_or-map as_taken ts i t d h ∙ ap as_taken (sym is))

-- ---- rows that make no expression

module _ (xs : List Term) (ys : List Row) (a : AllZip Alike xs (as_rows ys)) where
  same_length : length xs ≡ length ys
  same_length = length_all_zip Alike xs (as_rows ys) a ∙ length-map ys as_row

  same_cubes : (j l : ℕ) → j < length ys → l < letters → cube_in xs j l ≡ powers_at ys j l
  same_cubes j l h u =
      (AllZip-get_or Alike xs (as_rows ys) j (record { negative = false; cube = unit }) (as_row no_row) a (omega (arith, same_length))).cubes l u
      ∙ ap (λ (r : Term). r.cube l) (get_or-map as_row ys j no_row (as_row no_row) h)

  apart : Distinct xs → Apart ys
  apart d j k lt h same =
      distinct_at xs d j k lt (omega (arith, same_length))
      (λ l u. same_cubes j l (omega arith) u ∙ same l u ∙ sym (same_cubes k l h u))

  pub crowded : (why : Refused) → Unfit why ys → Crowded xs
  crowded why u few d = fits ys why u (omega (arith, same_length)) (apart d)

-- an expression of these rows, or the reason that there is none
pub made_anew : (want : List Term) (rows : List Row) (r : Result Expression Refused) (o : Option Expression) (U : Type 0) → AllZip Alike want (as_rows rows)
    → elim r as (λ _. Type 0) [ Ok x ↦ rows_of x ≡ rows | Err why ↦ Unfit why rows ] → o ≡ result_ok r → (Crowded want → U)
    → elim o as (λ _. Type 0) [ Some x ↦ AllZip Alike want (as_rows (rows_of x)) | None ↦ U ]
made_anew want rows (Ok x) o U a v h u =
    subst (λ (p : Option Expression). elim p as (λ _. Type 0) [ Some y ↦ AllZip Alike want (as_rows (rows_of y)) | None ↦ U ]) (sym h) (subst (λ (ys : List Row). AllZip Alike want (as_rows ys)) (sym v) a)
made_anew want rows (Err why) o U a v h u =
    subst (λ (p : Option Expression). elim p as (λ _. Type 0) [ Some y ↦ AllZip Alike want (as_rows (rows_of y)) | None ↦ U ]) (sym h) (u (crowded want rows a why v))
