-- Rows with distinct cubes.
use Rattle.std.proofs.Common.{◌≡◌, ℕ, zero, suc, ◌<◌, Bool, true, false, cond, List, [], ◌∷◌, map, length, refl, arith}
use Rattle.std.specs.List.{AllByRecursion}
use Rattle.std.proofs.ByRecursion.{All-get_or, All-from_get_or, All-weaker, all_kept_by, kept_by_passes}
use Rattle.algebra.specs.Cubes.{Powers, Same, Divides, unit, quotient}
use Rattle.algebra.specs.Rows.{Row, Distinct, cube_in, divides_test, multiples, quotient_row, quotients}
use Rattle.algebra.proofs.Degrees.{divides_decides}

-- by places
pub distinct_at : (e : List Row) → Distinct e → (i j : ℕ) → i < j → j < length e → Same (cube_in e i) (cube_in e j) → ⊥
distinct_at [] d i j h l = absurd (omega arith)
distinct_at (r ∷ e) d i zero h l = absurd (omega arith)
distinct_at (r ∷ e) d zero (suc j) h l = All-get_or (λ (s : Row). Same r.cube s.cube → ⊥) e j (record { negative = false; cube = unit }) (omega arith) d.0
distinct_at (r ∷ e) d (suc i) (suc j) h l = distinct_at e d.1 i j (omega arith) (omega arith)

pub distinct_from : (e : List Row) → ((i j : ℕ) → i < j → j < length e → Same (cube_in e i) (cube_in e j) → ⊥) → Distinct e
distinct_from [] h = tt
distinct_from (r ∷ e) h = (
  All-from_get_or (λ (s : Row). Same r.cube s.cube → ⊥) e (record { negative = false; cube = unit }) (λ j l. h 0 (suc j) (omega arith) (omega arith)),
  distinct_from e (λ i j k l. h (suc i) (suc j) (omega arith) (omega arith)),
)

-- cubes that c divides are the same where their quotients are
pub same_quotients : (c a b : Powers) → Divides c a → Divides c b → Same (quotient a c) (quotient b c) → Same a b
same_quotients c a b p q s l h = omega (arith, p l h, q l h, s l h)

other_quotients : (c : Powers) (r : Row) → Divides c r.cube → (e : List Row) → AllByRecursion (λ (s : Row). Same r.cube s.cube → ⊥) e → AllByRecursion (λ (s : Row). Divides c s.cube) e
    → AllByRecursion (λ (s : Row). Same (quotient r.cube c) s.cube → ⊥) (map (quotient_row c) e)
other_quotients c r p [] h d = tt
other_quotients c r p (s ∷ e) h d = ((λ q. h.0 (same_quotients c r.cube s.cube p d.0 q)), other_quotients c r p e h.1 d.1)

pub multiples_divided : (c : Powers) (e : List Row) → AllByRecursion (λ (r : Row). Divides c r.cube) (multiples c e)
multiples_divided c e =
    All-weaker (λ (r : Row). divides_test c r.cube ≡ true) (λ (r : Row). Divides c r.cube) (λ r t. (divides_decides c r.cube).0 t) (multiples c e)
    (kept_by_passes (λ (r : Row). divides_test c r.cube) e)

-- quotients of distinct rows are distinct
pub distinct_quotients : (c : Powers) (e : List Row) → Distinct e → Distinct (quotients c e)
distinct_quotients c [] d = tt
distinct_quotients c (r ∷ e) d = go (divides_test c r.cube) (divides_decides c r.cube).0 (distinct_quotients c e d.1)
  where
    go : (t : Bool) → (t ≡ true → Divides c r.cube) → Distinct (quotients c e) → Distinct (map (quotient_row c) (cond t (r ∷ multiples c e) (multiples c e)))
    go true y q = (
      other_quotients c r (y refl) (multiples c e)
          (all_kept_by (λ (s : Row). divides_test c s.cube) (λ (s : Row). Same r.cube s.cube → ⊥) e d.0)
          (multiples_divided c e),
      q,
    )
    go false y q = q
