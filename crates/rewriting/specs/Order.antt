-- The making order.
use Rattle.std.specs.Prelude.{◌≡◌, ℕ, zero, suc, ◌<◌, ◌≤◌, Bool, true, false, cond, ◌||◌, ◌⊎◌, List, [], ◌∷◌, map}
use Rattle.std.specs.List.{AllByRecursion}
use Rattle.algebra.specs.Cubes.{Powers, letters}
use Rattle.algebra.specs.Rows.{Row, divides_test}
use Rattle.rewriting.specs.Factor.{Apart, Taken, has}
use Rattle.rewriting.specs.Styles.{Style, standing}

-- m numbers from n on; and the formulas, 0 to 15
abbrev pub count_from : ℕ → ℕ → List ℕ
count_from n zero = []
count_from n (suc m) = n ∷ count_from (suc n) m

abbrev pub first_order : List ℕ
first_order = count_from 0 16

-- p just before the first that is named
abbrev pub put : (ℕ → Bool) → ℕ → List ℕ → List ℕ
put named p [] = p ∷ []
put named p (e ∷ es) = cond (named e) (p ∷ e ∷ es) (e ∷ put named p es)

-- the expressions that a part was taken from
abbrev pub factored_from : List Taken → ℕ → Bool
factored_from taken e = has (map (λ (t : Taken). t.expression) taken) e

abbrev pub any_divided : Powers → List Row → Bool
any_divided c [] = false
any_divided c (r ∷ rs) = divides_test c r.cube || any_divided c rs

abbrev pub shared_from : Style → Powers → ℕ → Bool
shared_from s c e = any_divided c (s.expression e)

-- a row has only part letters that are among those seen
abbrev pub MadeOf : List ℕ → Row → Type 0
MadeOf seen r = (l : ℕ) → 16 ≤ l → l < letters → (r.cube l ≡ 0) ⊎ (has seen l ≡ true)

-- each expression has only letters of parts that come before it
abbrev pub Backwards : (ℕ → List Row) → List ℕ → List ℕ → Type 0
Backwards rows seen [] = Unit {0}
Backwards rows seen (e ∷ es) = AllByRecursion (MadeOf seen) (rows e) × Backwards rows (e ∷ seen) es

-- each expression that stands is there once, and uses only parts before it
pub record Ordered (s : Style) (order : List ℕ) : Type 0 where
  pub once : Apart order
  pub there : (e : ℕ) → e < standing s → has order e ≡ true
  pub stand : AllByRecursion (λ (e : ℕ). e < standing s) order
  pub backwards : Backwards s.expression [] order
