-- What holds of the table of every closed style.
use Rattle.std.specs.Prelude.{◌+◌, ◌≤◌}
use Rattle.algebra.specs.Counts.{additions, multiplications, negations}
use Rattle.rewriting.specs.Closed.{Closed}
use Rattle.rewriting.specs.Order.{Ordered}
use Rattle.rewriting.specs.Styles.{over}
use Rattle.table.specs.declared.table.Table.{Table}
use Rattle.table.specs.Of.{order_of, style_of}

-- its style is closed, its order is a making order, and it takes at most two thousand operations
pub record Sound (t : Table) : Type 0 where
  pub closed : Closed (style_of t)
  pub ordered : Ordered (style_of t) (order_of t)
  pub cheap : over multiplications (style_of t) + over additions (style_of t) + over negations (style_of t) ≤ 2000
