-- Factor keeps what a style is worth.
use Rattle.std.proofs.Common.{◌≡◌, ℕ, ◌<◌, Bool, true, false, cond, List, [], ◌∷◌, map, sym, refl, ap, ◌∙◌, subst, ap₂}
use Rattle.std.specs.List.{AllByRecursion}
use Rattle.std.proofs.lemmas.Bool.{and_parts}
use Rattle.ring.specs.Ring.{CommRing}
use Rattle.ring.proofs.Laws.{opposite_plus, opposite_zero, times_opposite}
use Rattle.algebra.specs.Counts.{all_negative}
use Rattle.algebra.specs.Cubes.{Powers, letter, letters}
use Rattle.algebra.specs.Rows.{Row}
use Rattle.algebra.specs.Sums.{adding, total}
use Rattle.algebra.specs.Worth.{cube_worth, row_worth, worth}
use Rattle.algebra.proofs.Sums.{total_same}
use Rattle.algebra.proofs.Worths.{row_worth_alike, row_worth_product, total_times, worth_letter, worth_product}
use Rattle.rewriting.specs.Factor.{Apart, Behind, Taken, covered, has, part_rows, positive, product_row, rewritten, stand_in, taken_in, without}
use Rattle.rewriting.specs.Promises.{FactorKeepsWorth}
use Rattle.rewriting.specs.Styles.{Style, equal, standing}
use Rattle.rewriting.proofs.Parts.{equal_true, kept_with}
use Rattle.rewriting.proofs.Places.{after, before}

module _ {S : Type 0} (c : CommRing S) (value : ℕ → S) where
  -- a factor out of a sum
  worth_factor : (a : Powers) (e : List Row) → total (adding c) (λ (r : Row). row_worth c value (product_row a r)) e ≡ c.times (cube_worth c value a) (worth c value e)
  worth_factor a e = total_same (adding c) _ _ e (row_worth_product c value a) ∙ total_times c (cube_worth c value a) (row_worth c value) e

  -- the opposite of a sum
  worth_opposite : (e : List Row) → all_negative e ≡ true → worth c value e ≡ c.opposite (worth c value (map positive e))
  worth_opposite [] h = sym (opposite_zero c)
  worth_opposite (r ∷ rs) h =
      let t = and_parts r.negative (all_negative rs) h in
      ap₂ c.plus (ap (λ (b : Bool). cond b (c.opposite (cube_worth c value r.cube)) (cube_worth c value r.cube)) t.0) (worth_opposite rs t.1) ∙ sym (opposite_plus c _ _)

-- the kernels of one expression keep what each kernel keeps
pub behind_of : (s : Style) (columns : List Row) (e : ℕ) (ts : List Taken)
    → AllByRecursion (λ (t : Taken). Behind (s.expression t.expression) t.co_kernel t.places columns) ts
    → AllByRecursion (λ (t : Taken). Behind (s.expression e) t.co_kernel t.places columns) (taken_in e ts)
behind_of s columns e [] h = tt
behind_of s columns e (t ∷ ts) h = go (equal e t.expression) refl (behind_of s columns e ts h.1)
  where
    P : Taken → Type 0
    P x = Behind (s.expression e) x.co_kernel x.places columns

    go : (b : Bool) → equal e t.expression ≡ b → AllByRecursion P (taken_in e ts) → AllByRecursion P (cond b (t ∷ taken_in e ts) (taken_in e ts))
    go true q r = (subst (λ (n : ℕ). Behind (s.expression n) t.co_kernel t.places columns) (sym (equal_true e t.expression q)) h.0, r)
    go false q r = r

module _ {S : Type 0} (c : CommRing S) (value : ℕ → S) (columns : List Row) (p : ℕ) (small : p < letters) (made : value p ≡ worth c value (part_rows columns)) where
  -- the row that stands for a kernel is worth its co-kernel times the columns
  pub stand_in_worth : (t : Taken) → row_worth c value (stand_in p columns t) ≡ c.times (cube_worth c value t.co_kernel) (worth c value columns)
  stand_in_worth t =
      ap (λ (x : S). cond (all_negative columns) (c.opposite x) x) (worth_product c value t.co_kernel (letter p) ∙ ap (c.times _) (worth_letter c value p small ∙ made))
      ∙ go (all_negative columns) refl
    where
      k : S
      k = cube_worth c value t.co_kernel

      go : (b : Bool) → all_negative columns ≡ b
          → cond b (c.opposite (c.times k (worth c value (cond b (map positive columns) columns)))) (c.times k (worth c value (cond b (map positive columns) columns))) ≡ c.times k (worth c value columns)
      go true q = sym (times_opposite c _ _) ∙ ap (c.times k) (sym (worth_opposite c value columns q))
      go false q = refl

  pub rewritten_worth : (rows : List Row) (ts : List Taken) → AllByRecursion (λ (t : Taken). Behind rows t.co_kernel t.places columns) ts → Apart (covered ts)
      → worth c value rows ≡ worth c value (rewritten p columns ts rows)
  rewritten_worth rows ts h d =
      before (adding c) (row_worth c value) (row_worth_alike c value) rows columns ts h d
      ∙ ap (λ (x : S). c.plus x (worth c value (without (has (covered ts)) rows))) (total_same (adding c) _ _ ts (λ t. worth_factor c value t.co_kernel columns ∙ sym (stand_in_worth t)))
      ∙ sym (after (adding c) (row_worth c value) (row_worth_alike c value) rows columns p ts)

pub factor_keeps_worth : {S : Type 0} (c : CommRing S) → FactorKeepsWorth c
factor_keeps_worth c s columns taken k measures value f =
    kept_with s _ (part_rows columns) c measures value f (λ made e l.
    rewritten_worth c value columns (standing s) k.letter_left made (s.expression e) (taken_in e taken) (behind_of s columns e taken k.behind) (k.once e l))
