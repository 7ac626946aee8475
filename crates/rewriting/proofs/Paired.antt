-- Two rows with a common cube, and cubes that divide two rows.
use Rattle.std.proofs.Common.{◌≡◌, ℕ, zero, suc, ◌+◌, ◌<◌, ◌≤◌, Bool, true, false, cond, ◌⊎◌, List, [], ◌∷◌, length, sym, refl, subst, inl, inr, ⊎_elim, arith}
use Rattle.std.proofs.lemmas.Bool.{cases_eq, cases_lt}
use Rattle.algebra.specs.Cubes.{Powers, Same, letters}
use Rattle.algebra.specs.Rows.{Row, cube_in, divides_test}
use Rattle.algebra.specs.Sums.{counting, up_to}
use Rattle.algebra.proofs.Sums.{up_to_part}
use Rattle.algebra.proofs.Degrees.{common_greatest, degree_divisor, degree_same, divides_decides, same_refl}
use Rattle.rewriting.specs.Promises.{NoPairNoCube, PairsShare}
use Rattle.rewriting.specs.Share.{Shares, divided}
use Rattle.rewriting.specs.Sharing.{Ahead, Sharing, Spot, Stands, shared_cube}
use Rattle.rewriting.specs.Styles.{Style, over, standing}
use Rattle.rewriting.proofs.Tidies.{divided_some, up_to_some}

-- a row that is divided counts one, two count two
module _ (c : Powers) where
  one_divided : (e : List Row) (k : ℕ) → k < length e → divides_test c (cube_in e k) ≡ true → 1 ≤ divided c e
  one_divided [] k l h = absurd (omega arith)
  one_divided (r ∷ e) zero l h = subst (λ (b : Bool). 1 ≤ cond b 1 0 + divided c e) (sym h) (omega arith)
  one_divided (r ∷ e) (suc k) l h = let z = one_divided e k (omega arith) h in omega arith

  two_divided : (e : List Row) (k m : ℕ) → k < m → m < length e → divides_test c (cube_in e k) ≡ true → divides_test c (cube_in e m) ≡ true → 2 ≤ divided c e
  two_divided [] k m j l h g = absurd (omega arith)
  two_divided (r ∷ e) k zero j l h g = absurd (omega arith)
  two_divided (r ∷ e) zero (suc m) j l h g =
      let z = one_divided e m (omega arith) g in subst (λ (b : Bool). 2 ≤ cond b 1 0 + divided c e) (sym h) (omega arith)
  two_divided (r ∷ e) (suc k) (suc m) j l h g = let z = two_divided e k m (omega arith) (omega arith) h g in omega arith

  -- and the other way
  divided_pair : (e : List Row) → 2 ≤ divided c e → (k : ℕ) × (m : ℕ) × (k < m) × (m < length e) × (divides_test c (cube_in e k) ≡ true) × (divides_test c (cube_in e m) ≡ true)
  divided_pair [] h = absurd (omega arith)
  divided_pair (r ∷ e) h = go (divides_test c r.cube) refl h (divided_pair e)
    where
      go : (b : Bool) → divides_test c r.cube ≡ b → 2 ≤ cond b 1 0 + divided c e
          → (2 ≤ divided c e → (k : ℕ) × (m : ℕ) × (k < m) × (m < length e) × (divides_test c (cube_in e k) ≡ true) × (divides_test c (cube_in e m) ≡ true))
          → (k : ℕ) × (m : ℕ) × (k < m) × (m < suc (length e)) × (divides_test c (cube_in (r ∷ e) k) ≡ true) × (divides_test c (cube_in (r ∷ e) m) ≡ true)
      go true q g f = let z = divided_some c e (omega arith) in (0, suc z.0, omega arith, omega (arith, z.1), q, z.2)
      go false q g f = let z = f (omega arith) in (suc z.0, suc z.1, omega (arith, z.2), omega (arith, z.3), z.4, z.5)

-- sums of numbers below a bound
up_to_two : (f : ℕ → ℕ) (n i j : ℕ) → i < j → j < n → f i + f j ≤ up_to counting n f
unfolding up_to
up_to_two f zero i j h l = absurd (omega arith)
up_to_two f (suc n) i j h l =
    ⊎_elim (λ e. let z = up_to_part n f i (omega arith) in subst (λ (m : ℕ). f i + f m ≤ up_to counting n f + f n) (sym e) (omega arith))
    (λ e. let z = up_to_two f n i j h (omega arith) in omega arith) (cases_eq j n)

up_to_pair : (f : ℕ → ℕ) (n : ℕ) → 2 ≤ up_to counting n f
    → ((i : ℕ) × (i < n) × (2 ≤ f i)) ⊎ ((i : ℕ) × (j : ℕ) × (i < j) × (j < n) × (1 ≤ f i) × (1 ≤ f j))
unfolding up_to
up_to_pair f zero h = absurd (omega arith)
up_to_pair f (suc n) h = ⊎_elim
    (λ a. inl (n, omega arith, a))
    (λ a. ⊎_elim
    (λ b. let z = up_to_some f n (omega arith) in inr (z.0, n, z.1, omega arith, z.2, b))
    (λ b. ⊎_elim (λ x. inl (x.0, omega (arith, x.1), x.2)) (λ x. inr (x.0, x.1, x.2, omega (arith, x.3), x.4, x.5)) (up_to_pair f n (omega arith)))
    (cases_lt 0 (f n)))
    (cases_lt 1 (f n))

-- a cube with the powers of the common cube of two rows is what share may take
pub pair_shares : (s : Style) (x y : Spot) (c : Powers) → standing s < letters → Sharing s x y → Same c (shared_cube s x y) → Shares s c
pair_shares s x y c left h same_cube =
    record { letter_left = left; high = subst (λ (n : ℕ). 2 ≤ n) (sym (degree_same c (shared_cube s x y) same_cube)) h.high; rows = ⊎_elim apart same h.ahead }
  where
    first : divides_test c (cube_in (s.expression x.expression) x.row) ≡ true
    first = (divides_decides c (cube_in (s.expression x.expression) x.row)).1 (λ l k. omega (arith, same_cube l k))

    second : divides_test c (cube_in (s.expression y.expression) y.row) ≡ true
    second = (divides_decides c (cube_in (s.expression y.expression) y.row)).1 (λ l k. omega (arith, same_cube l k))

    apart : x.expression < y.expression → 2 ≤ over (divided c) s
    apart a =
        let i = one_divided c (s.expression x.expression) x.row h.first.row first in
        let j = one_divided c (s.expression y.expression) y.row h.second.row second in
        let z = up_to_two (λ e. divided c (s.expression e)) (standing s) x.expression y.expression a h.second.expression in
        omega arith

    same : (x.expression ≡ y.expression) × (x.row < y.row) → 2 ≤ over (divided c) s
    same a =
        let i = two_divided c (s.expression y.expression) x.row y.row a.1 h.second.row
        (subst (λ (e : ℕ). divides_test c (cube_in (s.expression e) x.row) ≡ true) a.0 first) second
        in
        let z = up_to_part (standing s) (λ e. divided c (s.expression e)) y.expression h.second.expression in
        omega arith

pub pairs_share : PairsShare
pairs_share s x y left h = pair_shares s x y (shared_cube s x y) left h (same_refl (shared_cube s x y))

pub no_pair_no_cube : NoPairNoCube
no_pair_no_cube s none c high = ⊎_elim (λ more. absurd (⊎_elim inside across (up_to_pair (λ e. divided c (s.expression e)) (standing s) more))) (λ few. few) (cases_lt 1 (over (divided c) s))
  where
    pair : (x y : Spot) → Stands s x → Stands s y → Ahead x y → divides_test c (cube_in (s.expression x.expression) x.row) ≡ true
        → divides_test c (cube_in (s.expression y.expression) y.row) ≡ true → ⊥
    pair x y i j a f g =
        let d = degree_divisor c (shared_cube s x y)
        (common_greatest (cube_in (s.expression x.expression) x.row) (cube_in (s.expression y.expression) y.row) c
        ((divides_decides c (cube_in (s.expression x.expression) x.row)).0 f) ((divides_decides c (cube_in (s.expression y.expression) y.row)).0 g))
        in
        none x y (record { first = i; second = j; ahead = a; high = omega (arith, d, high) })

    inside : (e : ℕ) × (e < standing s) × (2 ≤ divided c (s.expression e)) → ⊥
    inside z =
        let t = divided_pair c (s.expression z.0) z.2 in
        pair (record { expression = z.0; row = t.0 }) (record { expression = z.0; row = t.1 })
        (record { expression = z.1; row = omega (arith, t.2, t.3) }) (record { expression = z.1; row = t.3 }) (inr (refl, t.2)) t.4 t.5

    across : (i : ℕ) × (j : ℕ) × (i < j) × (j < standing s) × (1 ≤ divided c (s.expression i)) × (1 ≤ divided c (s.expression j)) → ⊥
    across z =
        let a = divided_some c (s.expression z.0) z.4 in
        let b = divided_some c (s.expression z.1) z.5 in
        pair (record { expression = z.0; row = a.0 }) (record { expression = z.1; row = b.0 })
        (record { expression = omega (arith, z.2, z.3); row = a.1 }) (record { expression = z.3; row = b.1 }) (inl z.2) a.2 b.2
