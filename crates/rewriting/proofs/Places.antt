-- A list and the places that are taken out of it.
use Rattle.std.proofs.Common.{◌≡◌, ℕ, zero, suc, ◌<◌, Bool, true, false, cond, ◌||◌, List, [], ◌∷◌, map, length, sym, refl, ap, ◌∙◌, ap₂, arith}
use Rattle.std.specs.List.{AllByRecursion}
use Rattle.std.proofs.ByRecursion.{All-append}
use Rattle.algebra.specs.Cubes.{Powers, Same, unit}
use Rattle.algebra.specs.Rows.{Alike, Row, row_in}
use Rattle.algebra.specs.Sums.{Adding, total}
use Rattle.algebra.proofs.Sums.{join_left, neutral_join, total_append, total_map}
use Rattle.rewriting.specs.Factor.{Apart, Behind, Taken, covered, has, product_row, rewritten, stand_in, without}
use Rattle.rewriting.specs.Styles.{equal}

-- what stands where no row is
abbrev pub nothing : Row
nothing = record { negative = false; cube = unit }

-- another cube, signs aside
abbrev pub Other : Row → Row → Type 0
Other r x = Same r.cube x.cube → ⊥

module _ {M : Type 0} (a : Adding M) (f : Row → M) where
  -- one place more is taken out
  pub without_more : (gone : ℕ → Bool) (rows : List Row) (k : ℕ) → k < length rows → gone k ≡ false
      → total a f (without gone rows) ≡ a.join (f (row_in rows k)) (total a f (without (λ j. equal j k || gone j) rows))
  without_more gone [] k l e = absurd (omega arith)
  without_more gone (r ∷ rs) zero l e = ap (λ (b : Bool). total a f (cond b (without (λ j. gone (suc j)) rs) (r ∷ without (λ j. gone (suc j)) rs))) e
  without_more gone (r ∷ rs) (suc k) l e = go (gone 0) _ _ _ (without_more (λ j. gone (suc j)) rs k (omega arith) e)
    where
      go : (b : Bool) (xs ys : List Row) (w : M) → total a f xs ≡ a.join w (total a f ys) → total a f (cond b xs (r ∷ xs)) ≡ a.join w (total a f (cond b ys (r ∷ ys)))
      go true xs ys w h = h
      go false xs ys w h = ap (a.join (f r)) h ∙ join_left a _ _ _

  pub without_none : (rows : List Row) → total a f (without (λ _. false) rows) ≡ total a f rows
  without_none [] = refl
  without_none (r ∷ rs) = ap (a.join (f r)) (without_none rs)

  -- a list is the rows at some places and the rest
  pub without_all : (rows : List Row) (ks : List ℕ) → Apart ks → AllByRecursion (λ (k : ℕ). k < length rows) ks
      → total a f rows ≡ a.join (total a (λ (k : ℕ). f (row_in rows k)) ks) (total a f (without (has ks) rows))
  without_all rows [] h l = sym (neutral_join a _ ∙ without_none rows)
  without_all rows (k ∷ ks) h l =
      without_all rows ks h.1 l.1
      ∙ ap (a.join _) (without_more (has ks) rows k l.0 h.0)
      ∙ join_left a _ _ _ ∙ sym (a.assoc _ _ _)

  module _ (alike : (r s : Row) → Alike r s → f r ≡ f s) (rows columns : List Row) where
    behind_within : (c : Powers) (ks : List ℕ) (cols : List Row) → Behind rows c ks cols → AllByRecursion (λ (k : ℕ). k < length rows) ks
    behind_within c [] [] h = tt
    behind_within c [] (col ∷ cols) h = tt
    behind_within c (k ∷ ks) [] h = absurd h
    behind_within c (k ∷ ks) (col ∷ cols) h = (h.0.0, behind_within c ks cols h.1)

    behind_total : (c : Powers) (ks : List ℕ) (cols : List Row) → Behind rows c ks cols
        → total a (λ (k : ℕ). f (row_in rows k)) ks ≡ total a (λ (col : Row). f (product_row c col)) cols
    behind_total c [] [] h = refl
    behind_total c [] (col ∷ cols) h = absurd h
    behind_total c (k ∷ ks) [] h = absurd h
    behind_total c (k ∷ ks) (col ∷ cols) h = ap₂ a.join (alike _ _ h.0.1) (behind_total c ks cols h.1)

    abbrev pub Behinds : List Taken → Type 0
    Behinds ts = AllByRecursion (λ (t : Taken). Behind rows t.co_kernel t.places columns) ts

    covered_within : (ts : List Taken) → Behinds ts → AllByRecursion (λ (k : ℕ). k < length rows) (covered ts)
    covered_within [] h = tt
    covered_within (t ∷ ts) h = All-append _ t.places (covered ts) (behind_within t.co_kernel t.places columns h.0) (covered_within ts h.1)

    covered_total : (ts : List Taken) → Behinds ts
        → total a (λ (k : ℕ). f (row_in rows k)) (covered ts) ≡ total a (λ (t : Taken). total a (λ (col : Row). f (product_row t.co_kernel col)) columns) ts
    covered_total [] h = refl
    covered_total (t ∷ ts) h =
        total_append a (λ (k : ℕ). f (row_in rows k)) t.places (covered ts)
        ∙ ap₂ a.join (behind_total t.co_kernel t.places columns h.0) (covered_total ts h.1)

    -- before: the rest, and for each kernel its co-kernel times each column; after: the rest, and one row for each kernel
    pub before : (ts : List Taken) → Behinds ts → Apart (covered ts)
        → total a f rows ≡ a.join (total a (λ (t : Taken). total a (λ (col : Row). f (product_row t.co_kernel col)) columns) ts) (total a f (without (has (covered ts)) rows))
    before ts h d = without_all rows (covered ts) d (covered_within ts h) ∙ ap (λ (x : M). a.join x (total a f (without (has (covered ts)) rows))) (covered_total ts h)

    pub after : (p : ℕ) (ts : List Taken)
        → total a f (rewritten p columns ts rows) ≡ a.join (total a (λ (t : Taken). f (stand_in p columns t)) ts) (total a f (without (has (covered ts)) rows))
    after p ts = total_append a f (without (has (covered ts)) rows) (map (stand_in p columns) ts) ∙ a.comm _ _ ∙ ap (λ (x : M). a.join x (total a f (without (has (covered ts)) rows))) (total_map a f (stand_in p columns) ts)
