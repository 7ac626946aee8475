-- Share keeps what a style is worth, and what it saves.
use Rattle.std.proofs.Common.{◌≡◌, ℕ, zero, suc, ◌+◌, ◌-◌, ◌*◌, ◌<◌, ◌≤◌, Bool, true, false, cond, ◌&&◌, List, [], ◌∷◌, map, sym, refl, ap, ◌∙◌, ap₂, add-zero, arith}
use Rattle.std.proofs.lemmas.List.{length-map}
use Rattle.ring.specs.Ring.{CommRing}
use Rattle.algebra.specs.Counts.{additions, all_negative, less_one, multiplications, negations}
use Rattle.algebra.specs.Cubes.{Powers, Same, letter, letters, product, quotient}
use Rattle.algebra.specs.Rows.{Row, degree, divides_test}
use Rattle.algebra.specs.Sums.{adding, counting, up_to}
use Rattle.algebra.specs.Worth.{cube_worth, row_worth, worth}
use Rattle.algebra.proofs.Degrees.{degree_letter, degree_product, degree_quotient, divides_decides, product_quotient, same_sym}
use Rattle.algebra.proofs.Sums.{total_map, total_same, up_to_join, up_to_same, up_to_through}
use Rattle.algebra.proofs.Worths.{worth_letter, worth_product, worth_quotient}
use Rattle.rewriting.specs.Promises.{ShareKeepsWorth}
use Rattle.rewriting.specs.Share.{Shares, cube_part, divided, products_saved, shared, shared_row}
use Rattle.rewriting.specs.Styles.{Saves, Style, over, standing}
use Rattle.rewriting.proofs.Parts.{at_new, at_old, kept_with, negations_with, over_next}
use Rattle.rewriting.proofs.Savings.{less_one_is}

-- what a cube divides is its quotient times the cube
pub quotient_times : (a b : Powers) → divides_test b a ≡ true → Same a (product (quotient a b) b)
quotient_times a b h = same_sym (product (quotient a b) b) a (product_quotient b a ((divides_decides b a).0 h))

module _ {S : Type 0} (c : CommRing S) (value : ℕ → S) (p : ℕ) (small : p < letters) (cube : Powers) (made : value p ≡ cube_worth c value cube) where
  pub shared_cube_worth : (a : Powers) → cube_worth c value a ≡ cube_worth c value (cond (divides_test cube a) (product (quotient a cube) (letter p)) a)
  shared_cube_worth a = go (divides_test cube a) refl
    where
      go : (b : Bool) → divides_test cube a ≡ b → cube_worth c value a ≡ cube_worth c value (cond b (product (quotient a cube) (letter p)) a)
      go true h =
          sym (worth_quotient c value cube a ((divides_decides cube a).0 h))
          ∙ ap (c.times (cube_worth c value (quotient a cube))) (sym (worth_letter c value p small ∙ made)) ∙ sym (worth_product c value (quotient a cube) (letter p))
      go false h = refl

  pub shared_worth : (e : List Row) → worth c value e ≡ worth c value (map (shared_row p cube) e)
  shared_worth e = total_same (adding c) _ _ e (λ r. ap (λ (x : S). cond r.negative (c.opposite x) x) (shared_cube_worth r.cube)) ∙ sym (total_map (adding c) (row_worth c value) (shared_row p cube) e)

pub share_keeps_worth : {S : Type 0} (c : CommRing S) → ShareKeepsWorth c
share_keeps_worth c s cube k measures value f =
    kept_with s _ (cube_part cube) c measures value f (λ made e l. shared_worth c value (standing s) k.letter_left cube (made ∙ c.plus_zero _) (s.expression e))

-- facts of numbers
less_shared : (a q k : ℕ) (d v : ℕ) → a ≡ q + k → 1 ≤ k → d ≡ q + v → v ≡ 1 → less_one a ≡ less_one d + (k - 1)
less_shared a q k d v e h f g = omega (arith, less_one_is a, less_one_is d)

less_products : (b a a₁ n k : ℕ) → 1 ≤ n → b ≡ a₁ + n * (k - 1) → a ≡ a₁ + less_one k → b ≡ a + (n - 1) * (k - 1)
less_products b a a₁ zero k h e f = absurd (omega arith)
less_products b a a₁ (suc n) k h e f = let q : (suc n - 1) * (k - 1) ≡ n * (k - 1) = ap (λ (x : ℕ). x * (k - 1)) (omega arith) in omega (arith, less_one_is k)

add_up : (x y x' y' b d k : ℕ) → x ≡ x' + b * k → y ≡ y' + d * k → x + y ≡ (x' + y') + (b + d) * k
add_up x y x' y' b d k e f = omega arith

one_saved : (n k : ℕ) → 2 ≤ n → 2 ≤ k → 1 ≤ (n - 1) * (k - 1)
one_saved zero k h e = absurd (omega arith)
one_saved (suc n) zero h e = absurd (omega arith)
one_saved (suc zero) (suc k) h e = absurd (omega arith)
one_saved (suc (suc n)) (suc zero) h e = absurd (omega arith)
one_saved (suc (suc n)) (suc (suc k)) h e = let q : (suc (suc n) - 1) * (suc (suc k) - 1) ≡ suc n * suc k = ap₂ ◌*◌ (omega arith) (omega arith) in omega arith

module _ (s : Style) (cube : Powers) (k : Shares s cube) where
  abbrev next : ℕ → List Row
  next e = map (shared_row (standing s) cube) (s.expression e)

  row_saved : (a : Powers) → less_one (degree a) ≡ less_one (degree (cond (divides_test cube a) (product (quotient a cube) (letter (standing s))) a)) + cond (divides_test cube a) 1 0 * (degree cube - 1)
  row_saved a = go (divides_test cube a) refl
    where
      go : (b : Bool) → divides_test cube a ≡ b → less_one (degree a) ≡ less_one (degree (cond b (product (quotient a cube) (letter (standing s))) a)) + cond b 1 0 * (degree cube - 1)
      go true h =
          less_shared _ _ _ _ _ (sym (degree_quotient cube a ((divides_decides cube a).0 h))) (omega (arith, k.high))
          (degree_product (quotient a cube) (letter (standing s))) (degree_letter (standing s) k.letter_left) ∙ omega arith
      go false h = omega arith

  products_at : (e : List Row) → multiplications e ≡ multiplications (map (shared_row (standing s) cube) e) + divided cube e * (degree cube - 1)
  products_at [] = omega arith
  products_at (r ∷ rs) = add_up _ _ _ _ _ _ _ (row_saved r.cube) (products_at rs)

  negations_at : (e : List Row) → negations e ≡ negations (map (shared_row (standing s) cube) e)
  negations_at [] = refl
  negations_at (r ∷ rs) = ap (λ (b : Bool). cond (r.negative && b) 1 0) (signs rs)
    where
      signs : (e : List Row) → all_negative e ≡ all_negative (map (shared_row (standing s) cube) e)
      signs [] = refl
      signs (x ∷ xs) = ap (λ (b : Bool). x.negative && b) (signs xs)

  pub share_saves : Saves s (shared s cube) (products_saved s cube) 0 × (1 ≤ products_saved s cube)
  share_saves = (
    record {
      lowers = record {
        fewer_multiplications =
            less_products _ _ _ (over (divided cube) s) (degree cube) (omega (arith, k.rows))
            (up_to_same counting (standing s) _ _ (λ e l. products_at (s.expression e))
            ∙ up_to_join counting (standing s) (λ e. multiplications (next e)) (λ e. divided cube (s.expression e) * (degree cube - 1))
            ∙ ap (λ (x : ℕ). up_to counting (standing s) (λ e. multiplications (next e)) + x)
            (up_to_through counting counting (λ (x : ℕ). x * (degree cube - 1)) (omega arith) (λ x y. omega arith) (standing s) (λ e. divided cube (s.expression e))))
            (over_next s next (cube_part cube) multiplications ∙ ap (λ (x : ℕ). up_to counting (standing s) (λ e. multiplications (next e)) + x) (add-zero _));
        fewer_additions =
            up_to_same counting (standing s) _ (λ e. additions (next e)) (λ e l. ap less_one (sym (length-map (s.expression e) (shared_row (standing s) cube))))
            ∙ sym (add-zero _ ∙ over_next s next (cube_part cube) additions ∙ add-zero _);
        negations_stay = λ e l. negations_at (s.expression e) ∙ sym (at_old s next (cube_part cube) negations e l);
        as_many_negations = negations_with s next (cube_part cube) (λ e l. negations_at (s.expression e)) refl;
      };
      part_positive = at_new s next (cube_part cube) negations;
    },
    one_saved _ _ k.rows k.high,
  )
