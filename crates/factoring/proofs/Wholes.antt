-- The table with one part more.
use Rattle.std.proofs.Common.{◌≡◌, ℕ, ◌+◌, ◌<◌, Bool, ◌≢◌, ◌⊎◌, List, [], map, length, get_or, set, take, Some, None, Option, sym, ap, ap₂, ◌∙◌, subst, inl, inr, arith, below_more}
use Rattle.std.specs.List.{AllZip}
use Rattle.std.proofs.lemmas.List.Elements.{length_all_zip}
use Rattle.std.proofs.lemmas.List.{get_or-map}
use Rattle.std.proofs.lemmas.Bool.{cases_eq}
use Rattle.algebra.specs.Counts.{all_negative}
use Rattle.algebra.specs.Cubes.{Powers, Same, letter, unit}
use Rattle.algebra.specs.Rows.{Alike, Row as Term, quotients}
use Rattle.cubes.specs.Expressions.{Unfit, rows_of}
use Rattle.cubes.specs.Powers.{power}
use Rattle.cubes.specs.Rows.{as_rows}
use Rattle.cubes.specs.declared.expression.Expression.{Expression}
use Rattle.cubes.specs.declared.expression.Refused.{Refused}
use Rattle.cubes.specs.declared.row.Row.{Row}
use Rattle.kernels.specs.Kernels.{no_kernel}
use Rattle.kernels.specs.declared.kernel.Kernel.{Kernel}
use Rattle.rewriting.specs.Choosing.{named_by}
use Rattle.rewriting.specs.Factor.{Taken, factored, part_rows, rewritten, taken_in}
use Rattle.rewriting.specs.Order.{factored_from, put}
use Rattle.rewriting.specs.Presses.{Like}
use Rattle.rewriting.specs.Taking.{Kernel as Named, taken_by}
use Rattle.rewriting.proofs.Parts.{at_new, at_old}
use Rattle.sheet.specs.Numerals.{numerals_list}
use Rattle.table.specs.Adding.{AddsPart}
use Rattle.table.specs.Of.{order_of, rows_at, standing_in, style_of}
use Rattle.table.specs.declared.table.Table.{Table}
use Rattle.table.proofs.Looks.{rows_set_here, rows_set_other}
use Rattle.factoring.specs.Factoring.{Factors, TakesOut, Unfactored, Untaken, crowded, no_part, set_in, taken_for, too_high}
use Rattle.factoring.specs.Rewrites.{AllAnew, Crowded, OneUnmade, Overflows, anew}
use Rattle.kernels.specs.Named.{as_kernel, as_kernels}
use Rattle.factoring.specs.declared.factored.Factored.{Factored}
use Rattle.factoring.proofs.Likes.{anew_alike, crowded_alike, each_refl, each_trans, factored_alike, like_alike, taken_alike}
use Rattle.factoring.proofs.Rests as rests

-- ---- one expression written

module _ (es : List Expression) (i : ℕ) (x : Expression) (h : i < length es) where
  pub written_more : (P : ℕ → List Row → Type 0) → ((k : ℕ) → k < i → P k (get_or (map rows_of es) k [])) → P i (rows_of x) → (k : ℕ) → k < i + 1 → P k (get_or (map rows_of (set es i x)) k [])
  written_more P before here =
      below_more (λ k. P k (get_or (map rows_of (set es i x)) k [])) i
      (λ k lt. let ne : k ≢ i = omega arith in subst (P k) (sym (rows_set_other es i x k ne)) (before k lt))
      (subst (P i) (sym (rows_set_here es i x h)) here)

-- ---- all expressions, and the part

module _ (t : Table) (columns : List Term) (taken : List Taken) (negative : Bool) (part : Powers) (e : negative ≡ all_negative columns) (f : Same part (letter (standing_in t))) where
  pub factors : (next new : Table) (rows : List Row) → as_rows rows ≡ part_rows columns → AllAnew negative part taken t next → AddsPart (factored_from taken) rows next new → Factors t columns taken new
  factors next new rows q a b = record {
    style = record {
      numerals = ap numerals_list (sym (b.numerals ∙ a.numerals));
      parts = sym (b.parts ∙ ap (λ (n : ℕ). n + 1) a.parts);
      rows = λ k l. each k l (cases_eq k (standing_in t));
    };
    order = b.order ∙ order;
    parts = b.parts ∙ ap (λ (n : ℕ). n + 1) a.parts;
  }
    where
      old : ℕ → List Term
      old k = rewritten (standing_in t) columns (taken_in k taken) (as_rows (rows_at t k))

      order : put (factored_from taken) (standing_in next) (order_of next) ≡ put (factored_from taken) (standing_in t) (order_of t)
      order = ap₂ (λ (n : ℕ) (xs : List ℕ). put (factored_from taken) (16 + n) (take (16 + n) xs)) a.parts a.order

      here : rows_at new (standing_in t) ≡ rows
      here = ap (λ (n : ℕ). rows_at new (16 + n)) (sym a.parts) ∙ b.part_rows

      each : (k : ℕ) → k < 16 + (t.parts + 1) → (k ≡ standing_in t) ⊎ (k ≡ standing_in t → ⊥) → AllZip Alike ((factored (style_of t) columns taken).expression k) (as_rows (rows_at new k))
      each k l (inl w) =
          subst (λ (n : ℕ). AllZip Alike ((factored (style_of t) columns taken).expression n) (as_rows (rows_at new n))) (sym w)
          (subst (λ (xs : List Term). AllZip Alike xs (as_rows (rows_at new (standing_in t))))
          (ap as_rows here ∙ q ∙ sym (at_new (style_of t) old (part_rows columns) (λ (xs : List Term). xs)))
          (each_refl (as_rows (rows_at new (standing_in t)))))
      each k l (inr w) =
          let lt : k < standing_in t = omega arith in
          let lt' : k < standing_in next = omega (arith, a.parts) in
          subst (λ (xs : List Term). AllZip Alike xs (as_rows (rows_at new k))) (sym (at_old (style_of t) old (part_rows columns) (λ (xs : List Term). xs) k lt))
          (subst (λ (xs : List Row). AllZip Alike (old k) (as_rows xs)) (sym (b.rows k lt'))
          (each_trans (old k) (anew negative part (taken_in k taken) (as_rows (rows_at t k))) (as_rows (rows_at next k))
          (anew_alike (standing_in t) columns negative part e f (taken_in k taken) (as_rows (rows_at t k))) (a.rows k lt)))

  -- the part put in, or there is no room for it
  pub ends : (next : Table) (rows : List Row) (r : Option Table) → as_rows rows ≡ part_rows columns → AllAnew negative part taken t next
      → elim r as (λ _. Type 0) [ Some u ↦ AddsPart (factored_from taken) rows next u | None ↦ next.parts ≡ 16 ]
      → elim r as (λ _. Type 0) [ Some u ↦ Factors t columns taken u | None ↦ Unfactored t columns taken ]
  ends next rows None q a h = no_part (sym a.parts ∙ h)
  ends next rows (Some u) q a h = factors next u rows q a h

  pub unmade : OneUnmade negative part taken t → Unfactored t columns taken
  unmade (k, l, inl o) = too_high (o.0, o.1, (o.2.0, o.2.1, omega (arith, o.2.2, f o.2.0 o.2.1)))
  unmade (k, l, inr c) =
      crowded k (omega arith)
      (subst Crowded (sym (at_old (style_of t) (λ n. rewritten (standing_in t) columns (taken_in n taken) (as_rows (rows_at t n))) (part_rows columns) (λ (xs : List Term). xs) k l))
      (crowded_alike (rewritten (standing_in t) columns (taken_in k taken) (as_rows (rows_at t k))) _
      (anew_alike (standing_in t) columns negative part e f (taken_in k taken) (as_rows (rows_at t k))) c))

pub part_unmade : (t : Table) (columns : List Term) (taken : List Taken) (rows : List Row) (why : Refused) → as_rows rows ≡ part_rows columns → Unfit why rows → Unfactored t columns taken
part_unmade t columns taken rows why q u =
    crowded (standing_in t) (omega arith)
    (subst Crowded (q ∙ sym (at_new (style_of t) (λ n. rewritten (standing_in t) columns (taken_in n taken) (as_rows (rows_at t n))) (part_rows columns) (λ (xs : List Term). xs)))
    (rests.crowded (as_rows rows) rows (each_refl (as_rows rows)) why u))

-- ---- by the list of kernels

module _ (t : Table) (kernels : List Kernel) (p n : ℕ) (h : p < length kernels) where
  set_alike_at : (columns rows : List Row) → rows ≡ rows_at t (get_or kernels p no_kernel).expression
      → AllZip Alike (named_by n (quotients (power (get_or kernels p no_kernel).cokernel) (as_rows rows))) (as_rows columns) → AllZip Alike (set_in t kernels p n) (as_rows columns)
  set_alike_at columns rows e a =
      subst (λ (k : Named). AllZip Alike (named_by n (quotients k.co_kernel (as_rows (rows_at t k.expression)))) (as_rows columns))
      (sym (get_or-map as_kernel kernels p no_kernel (record { expression = 0; co_kernel = unit }) h))
      (subst (λ (xs : List Row). AllZip Alike (named_by n (quotients (power (get_or kernels p no_kernel).cokernel) (as_rows xs))) (as_rows columns)) e a)

  pub set_alike : (k : Kernel) → k ≡ get_or kernels p no_kernel → (columns rows : List Row) → rows ≡ rows_at t k.expression
      → AllZip Alike (named_by n (quotients (power k.cokernel) (as_rows rows))) (as_rows columns) → AllZip Alike (set_in t kernels p n) (as_rows columns)
  set_alike k is columns rows e a =
      set_alike_at columns rows (e ∙ ap (λ (x : Kernel). rows_at t x.expression) is)
      (subst (λ (x : Kernel). AllZip Alike (named_by n (quotients (power x.cokernel) (as_rows rows))) (as_rows columns)) is a)

  module _ (columns : List Term) (taken : List Taken) (a : AllZip Alike (set_in t kernels p n) columns) (b : taken ≡ taken_by (style_of t) columns (as_kernels kernels)) where
    same_taken : taken ≡ taken_for t kernels p n
    same_taken = b ∙ sym (taken_alike (style_of t) (set_in t kernels p n) columns a [] (as_kernels kernels))

    pub takes_out : (f : Factored) → Factors t columns taken f.table → f.rows ≡ length taken → f.columns ≡ length columns → TakesOut t kernels p n f
    takes_out f k r c = record {
      factors = record {
        style = subst (λ (ts : List Taken). Like (factored (style_of t) (set_in t kernels p n) ts) (style_of f.table)) same_taken (like_alike (style_of t) (set_in t kernels p n) columns a taken (style_of f.table) k.style);
        order = k.order ∙ ap (λ (ts : List Taken). put (factored_from ts) (standing_in t) (order_of t)) same_taken;
        parts = k.parts;
      };
      rows = r ∙ ap length same_taken;
      columns = c ∙ sym (length_all_zip Alike (set_in t kernels p n) columns a);
    }

    pub untaken : Unfactored t columns taken → Untaken t kernels p n
    untaken (no_part e) = inr (no_part e)
    untaken (crowded e l c) =
        inr (crowded e l (subst (λ (ts : List Taken). Crowded ((factored (style_of t) (set_in t kernels p n) ts).expression e)) same_taken
        (crowded_alike ((factored (style_of t) (set_in t kernels p n) taken).expression e) ((factored (style_of t) columns taken).expression e) (factored_alike (style_of t) (set_in t kernels p n) columns a taken e) c)))
    untaken (too_high o) = inr (too_high (subst (λ (ts : List Taken). Overflows ts (letter (standing_in t))) same_taken o))
