-- The column set that is chosen.
use Rattle.std.specs.Prelude.{◌≡◌, ℕ, ◌<◌, List, length, Some, None, Option}
use Rattle.choosing.specs.declared.choice.Choice.{Choice}
use Rattle.rewriting.specs.Choosing.{Best, GainsNothing, column_set, reckoned, taken_with}
use Rattle.rewriting.specs.Factor.{additions_saved, multiplications_saved}
use Rattle.rewriting.specs.Styles.{Style}
use Rattle.rewriting.specs.Taking.{Kernel}

-- it is the best, it saves something, and it tells how many kernels it takes, how many columns it has and both savings
pub record BestSet (w : ℕ) (s : Style) (kernels : List Kernel) (x : Choice) : Type 0 where
  pub best : Best (reckoned w s kernels) s kernels x.kernel x.set
  pub gains : 0 < reckoned w s kernels x.kernel x.set
  pub rows : x.rows ≡ length (taken_with s kernels x.kernel x.set)
  pub columns : x.columns ≡ length (column_set s kernels x.kernel x.set)
  pub multiplications : x.multiplications ≡ multiplications_saved (column_set s kernels x.kernel x.set) (taken_with s kernels x.kernel x.set)
  pub additions : x.additions ≡ additions_saved (column_set s kernels x.kernel x.set) (taken_with s kernels x.kernel x.set)

-- the best column set is chosen; none, if no set saves anything
abbrev pub Chooses : ℕ → Style → List Kernel → Option Choice → Type 0
Chooses w s kernels (Some x) = BestSet w s kernels x
Chooses w s kernels None = GainsNothing (reckoned w s kernels) s kernels
