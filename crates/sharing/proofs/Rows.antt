-- The rows of a table, and how many of them a cube divides.
use Rattle.std.proofs.Common.{◌≡◌, ℕ, ◌+◌, ◌-◌, ◌*◌, ◌<◌, ◌≤◌, true, false, cond, List, [], ◌∷◌, length, sym, refl, ap, ◌∙◌, inl, inr, ⊎_elim, add-one, arith}
use Rattle.std.proofs.lemmas.List.{get_or-map, length-map}
use Rattle.std.proofs.lemmas.List.Sums.{count_by-le-length, sum_by-cons}
use Rattle.std.proofs.lemmas.Bool.{both_ways, cases_Bool, cond-false, cond-true}
use Rattle.algebra.specs.Cubes.{Powers, Same, common}
use Rattle.algebra.specs.Rows.{Row as Term, degree, divides_test}
use Rattle.algebra.specs.Sums.{counting, up_to}
use Rattle.algebra.proofs.Degrees.{degree_same, divides_decides}
use Rattle.algebra.proofs.Sums.{total_same, up_to_more, up_to_same}
use Rattle.cubes.specs.Powers.{power}
use Rattle.cubes.specs.Rows.{as_row, as_rows, divided_rows, no_row, powers_at}
use Rattle.cubes.specs.declared.row.Row.{Row}
use Rattle.rewriting.specs.Share.{divided, products_saved}
use Rattle.rewriting.specs.Sharing.{Spot, Stands, cube_of, shared_cube}
use Rattle.rewriting.specs.Styles.{Style, over, standing}
use Rattle.table.specs.Of.{rows_at, style_of}
use Rattle.table.proofs.Looks.{few_rows}
use Rattle.table.specs.declared.table.Table.{Table}

-- the two ways to count agree
pub divided_are : (c : Powers) (xs : List Row) → divided c (as_rows xs) ≡ divided_rows c xs
divided_are c [] = refl
divided_are c (x ∷ xs) =
    let test : Row → ℕ = λ y. cond (divides_test c (power y.cube)) 1 0 in
    ap (λ (n : ℕ). test x + n) (divided_are c xs) ∙ sym (sum_by-cons test x xs)

-- one expression more
module _ (t : Table) (c : Powers) (e n : ℕ) (xs : List Row) (are : xs ≡ rows_at t e) (here : n ≡ divided_rows c xs) where
  pub few_divided : n ≤ 8
  few_divided = omega (arith, here, count_by-le-length (λ (x : Row). divides_test c (power x.cube)) xs, ap length are, few_rows t e)

  pub divided_more : (m : ℕ) → m ≡ up_to counting e (λ k. divided c ((style_of t).expression k)) → m + n ≡ up_to counting (e + 1) (λ k. divided c ((style_of t).expression k))
  divided_more m before =
      let f : ℕ → ℕ = λ k. divided c ((style_of t).expression k) in
      let more : up_to counting (e + 1) f ≡ up_to counting e f + f e = ap (λ (k : ℕ). up_to counting k f) (add-one e) ∙ up_to_more counting e f in
      let last : n ≡ f e = here ∙ ap (divided_rows c) are ∙ sym (divided_are c (rows_at t e)) in
      omega (arith, before, last, more)

-- what a row of the style is in the table
pub row_there : (t : Table) (x : Spot) → Stands (style_of t) x → (xs : List Row) → xs ≡ rows_at t x.expression → x.row < length xs
row_there t x stands xs are = omega (arith, stands.row, ap length are, length-map (rows_at t x.expression) as_row)

pub row_small : (t : Table) (x : Spot) → Stands (style_of t) x → x.row < 8
row_small t x stands = omega (arith, row_there t x stands (rows_at t x.expression) refl, few_rows t x.expression)

pub stands_there : (t : Table) (e k : ℕ) (xs : List Row) → xs ≡ rows_at t e → e < standing (style_of t) → k < length xs → Stands (style_of t) (record { expression = e; row = k })
stands_there t e k xs are low h = record { expression = low; row = omega (arith, ap length are, length-map (rows_at t e) as_row) }

pub rows_all : (t : Table) (e n : ℕ) (xs : List Row) → xs ≡ rows_at t e → length xs ≤ n → length ((style_of t).expression e) ≤ n
rows_all t e n xs are h = omega (arith, ap length are, length-map (rows_at t e) as_row)

module _ (t : Table) (x y : Spot) (sx : Stands (style_of t) x) (sy : Stands (style_of t) y) where
  cube_there : (z : Spot) → Stands (style_of t) z → cube_of (style_of t) z ≡ powers_at (rows_at t z.expression) z.row
  cube_there z stands = ap (λ (r : Term). r.cube) (get_or-map as_row (rows_at t z.expression) z.row no_row _ (row_there t z stands _ refl))

  -- the greatest common cube of two rows
  pub common_there : (xs ys : List Row) → xs ≡ rows_at t x.expression → ys ≡ rows_at t y.expression
      → (c : Powers) → Same c (common (powers_at xs x.row) (powers_at ys y.row)) → Same c (shared_cube (style_of t) x y)
  common_there xs ys are_x are_y c is =
      let one : powers_at xs x.row ≡ cube_of (style_of t) x = ap (λ (zs : List Row). powers_at zs x.row) are_x ∙ sym (cube_there x sx) in
      let other : powers_at ys y.row ≡ cube_of (style_of t) y = ap (λ (zs : List Row). powers_at zs y.row) are_y ∙ sym (cube_there y sy) in
      λ l h. is l h ∙ ap (λ (a : Powers). common a (powers_at ys y.row) l) one ∙ ap (λ (a : Powers). common (cube_of (style_of t) x) a l) other

-- cubes with the same powers save the same
module _ (a b : Powers) (same : Same a b) where
  test_same : (r : Term) → ◌≡◌ {A = ℕ} (cond (divides_test a r.cube) 1 0) (cond (divides_test b r.cube) 1 0)
  test_same r =
      elim (cases_Bool (divides_test a r.cube)) [
        | inl t ↦
            let u : divides_test b r.cube ≡ true = (divides_decides b r.cube).1 (λ l h. omega (arith, same l h, (divides_decides a r.cube).0 t l h)) in
            cond-true (divides_test a r.cube) 1 0 t ∙ sym (cond-true (divides_test b r.cube) 1 0 u)
        | inr f ↦
            let u : divides_test b r.cube ≡ false =
            ⊎_elim
            (λ t. absurd (both_ways (divides_test a r.cube) f ((divides_decides a r.cube).1 (λ l h. omega (arith, same l h, (divides_decides b r.cube).0 t l h)))))
            (λ g. g)
            (cases_Bool (divides_test b r.cube)) in
            cond-false (divides_test a r.cube) 1 0 f ∙ sym (cond-false (divides_test b r.cube) 1 0 u)
      ]

  pub saved_same : (s : Style) → products_saved s a ≡ products_saved s b
  saved_same s =
      let rows : over (divided a) s ≡ over (divided b) s = up_to_same counting (standing s) _ _ (λ e h. total_same counting _ _ (s.expression e) test_same) in
      ap (λ (n : ℕ). (n - 1) * (degree a - 1)) rows ∙ ap (λ (n : ℕ). (over (divided b) s - 1) * (n - 1)) (degree_same a b same)

-- the saving, from the number of rows less one and the degree
pub saved_from : (s : Style) (c : Powers) (rows less degrees : ℕ) → rows ≡ over (divided c) s → less ≡ rows - 1 → degrees ≡ degree c → less * (degrees - 1) ≡ products_saved s c
saved_from s c rows less degrees all one high =
    ap (λ (n : ℕ). n * (degrees - 1)) (one ∙ ap (λ (n : ℕ). n - 1) all) ∙ ap (λ (n : ℕ). (over (divided c) s - 1) * (n - 1)) high
