-- A kernel looked at: its columns one by one, and the list of those taken.
use Rattle.std.proofs.Common.{◌≡◌, ℕ, ◌+◌, ◌<◌, Bool, true, false, not, ◌&&◌, List, [], ◌∷◌, ◌++◌, length, get_or, drop, sym, refl, ap, ◌∙◌, subst, subst₂}
use Rattle.std.proofs.lemmas.List.{append_assoc, at_drop_more, map_push}
use Rattle.std.proofs.lemmas.Bool.{and_left, cond-true, cond-false}
use Rattle.algebra.specs.Cubes.{Powers}
use Rattle.algebra.specs.Rows.{Row as Term}
use Rattle.rewriting.specs.Factor.{Taken, covered, has, product_row, taken_in}
use Rattle.rewriting.specs.Styles.{Style}
use Rattle.rewriting.specs.Taking.{Kernel as Named, found, has_columns, spot, spots, take_of, taken_after, takes_next, uncovered}
use Rattle.cubes.specs.Powers.{power}
use Rattle.cubes.specs.Rows.{as_row, as_rows, no_row}
use Rattle.cubes.specs.declared.row.Row.{Row}
use Rattle.kernels.specs.Named.{as_kernel, as_kernels}
use Rattle.factoring.specs.Takens.{all_open, as_taken, as_takens, looked, open_at}
use Rattle.few.specs.declared.few.Few.{Few}
use Rattle.few.specs.Listed.{listed}
use Rattle.factoring.specs.declared.taken.TakenKernel.{TakenKernel}
use Rattle.kernels.specs.Kernels.{no_kernel}
use Rattle.kernels.specs.declared.kernel.Kernel.{Kernel}
use Rattle.table.specs.Of.{rows_at, style_of}
use Rattle.table.specs.declared.table.Table.{Table}

swapped : (a b c d : Bool) → ((a && b) && (c && d)) ≡ ((a && c) && (b && d))
swapped false b c d = refl
swapped true true c d = refl
swapped true false true d = refl
swapped true false false d = refl

module _ (rows : List Term) (c : Powers) (gone : List ℕ) (columns : List Row) (i : ℕ) (h : i < length columns) where
  pub open_step : all_open rows c gone (as_rows (drop i columns)) ≡ (open_at rows c gone (as_row (get_or columns i no_row)) && all_open rows c gone (as_rows (drop (i + 1) columns)))
  open_step =
      let col = as_row (get_or columns i no_row) in
      let cols = as_rows (drop (i + 1) columns) in
      at_drop_more (λ (xs : List Row). all_open rows c gone (as_rows xs)) columns i no_row h
      ∙ swapped (found rows (product_row c col)) (has_columns rows c cols) (not (has gone (spot rows (product_row c col)))) (uncovered gone (spots rows c cols))

  pub open_more : open_at rows c gone (as_row (get_or columns i no_row)) ≡ true → all_open rows c gone (as_rows (drop (i + 1) columns)) ≡ all_open rows c gone (as_rows (drop i columns))
  open_more e = sym (open_step ∙ ap (λ (b : Bool). b && all_open rows c gone (as_rows (drop (i + 1) columns))) e)

  pub open_less : open_at rows c gone (as_row (get_or columns i no_row)) ≡ false → all_open rows c gone (as_rows (drop i columns)) ≡ false
  open_less e = open_step ∙ and_left _ _ e

  pub spots_more : (ps : List ℕ) (k : ℕ) → k ≡ spot rows (product_row c (as_row (get_or columns i no_row)))
      → (ps ++ k ∷ []) ++ spots rows c (as_rows (drop (i + 1) columns)) ≡ ps ++ spots rows c (as_rows (drop i columns))
  spots_more ps k e =
      append_assoc ps (k ∷ []) (spots rows c (as_rows (drop (i + 1) columns)))
      ∙ ap (λ (n : ℕ). ps ++ n ∷ spots rows c (as_rows (drop (i + 1) columns))) e
      ∙ sym (ap (λ (xs : List ℕ). ps ++ xs) (at_drop_more (λ (xs : List Row). spots rows c (as_rows xs)) columns i no_row h))

module _ (s : Style) (columns : List Term) where
  pub looked_in : (ts : List TakenKernel) (k : Named) (t : TakenKernel) → takes_next s columns (as_takens ts) k ≡ true → as_taken t ≡ take_of s columns k
      → as_takens (ts ++ t ∷ []) ≡ looked s columns (as_takens ts) k
  looked_in ts k t e f =
      map_push as_taken ts t ∙ ap (λ (u : Taken). as_takens ts ++ u ∷ []) f ∙ sym (cond-true (takes_next s columns (as_takens ts) k) _ _ e)

  pub looked_out : (ts : List Taken) (k : Named) → takes_next s columns ts k ≡ false → ts ≡ looked s columns ts k
  looked_out ts k e = sym (cond-false (takes_next s columns ts k) _ _ e)

  pub taken_more : (ks : List Kernel) (i : ℕ) (ts us : List Taken) → i < length ks → us ≡ looked s columns ts (as_kernel (get_or ks i no_kernel))
      → taken_after s columns us (as_kernels (drop (i + 1) ks)) ≡ taken_after s columns ts (as_kernels (drop i ks))
  taken_more ks i ts us h e =
      ap (λ (vs : List Taken). taken_after s columns vs (as_kernels (drop (i + 1) ks))) e
      ∙ sym (at_drop_more (λ (zs : List Kernel). taken_after s columns ts (as_kernels zs)) ks i no_kernel h)

-- the kernel is taken, in terms of a table
pub taken_from : (t : Table) (columns : List Term) (k : Kernel) (ps : Few ℕ 8) (rows : List Row) (us old new : List TakenKernel)
    → rows ≡ rows_at t k.expression → us ≡ old → new ≡ old ++ record { expression = k.expression; cokernel = k.cokernel; places = ps } ∷ []
    → all_open (as_rows rows) (power k.cokernel) (covered (taken_in k.expression (as_takens us))) columns ≡ true → listed ps ≡ spots (as_rows rows) (power k.cokernel) columns
    → as_takens new ≡ looked (style_of t) columns (as_takens old) (as_kernel k)
taken_from t columns k ps rows us old new e f g o p =
    let q = subst₂ (λ (xs : List Row) (vs : List TakenKernel). all_open (as_rows xs) (power k.cokernel) (covered (taken_in k.expression (as_takens vs))) columns ≡ true) e f o in
    let r = subst (λ (xs : List Row). listed ps ≡ spots (as_rows xs) (power k.cokernel) columns) e p in
    ap as_takens g
    ∙ looked_in (style_of t) columns old (as_kernel k) (record { expression = k.expression; cokernel = k.cokernel; places = ps }) q
    (ap (λ (xs : List ℕ). record { expression = k.expression; co_kernel = power k.cokernel; places = xs }) r)
