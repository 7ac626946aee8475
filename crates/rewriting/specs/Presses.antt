-- One press after another.
use Rattle.std.specs.Prelude.{◌≡◌, ℕ, ◌+◌, ◌<◌, List}
use Rattle.std.specs.List.{AllZip}
use Rattle.algebra.specs.Cubes.{Powers}
use Rattle.algebra.specs.Rows.{Alike, Distinct, Row}
use Rattle.rewriting.specs.Factor.{Taken, Takes, additions_saved, factored, multiplications_saved}
use Rattle.rewriting.specs.Share.{Shares, products_saved, shared}
use Rattle.rewriting.specs.Styles.{Style, standing}

-- the same style as far as signs and the powers of the thirty-two letters say
pub record Like (s s' : Style) : Type 0 where
  pub numerals : s.numerals ≡ s'.numerals
  pub parts : s.parts ≡ s'.parts
  pub rows : (e : ℕ) → e < standing s → AllZip Alike (s.expression e) (s'.expression e)

-- an accepted factor or share leads from s to s' and saves so many multiplications and additions
pub data Press (s : Style) : Style → ℕ → ℕ → Type 0 where
  by_factor : {s' : Style} (columns : List Row) (taken : List Taken) → Takes s columns taken → Distinct columns → Like (factored s columns taken) s'
      → Press s s' (multiplications_saved columns taken) (additions_saved columns taken)
  by_share : {s' : Style} (cube : Powers) → Shares s cube → Like (shared s cube) s' → Press s s' (products_saved s cube) 0

-- any number of them, with the summed savings
pub data Presses : Style → Style → ℕ → ℕ → Type 0 where
  none : {s : Style} → Presses s s 0 0
  more : {s s₁ s₂ : Style} {m a m' a' : ℕ} → Press s s₁ m a → Presses s₁ s₂ m' a' → Presses s s₂ (m + m') (a + a')
