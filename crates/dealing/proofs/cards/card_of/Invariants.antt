use Rattle.std.proofs.Common.{◌≡◌, ◌*◌, take}
use Rattle.algebra.specs.Rows.{quotients}
use Rattle.few.specs.Listed.{listed}
use Rattle.cubes.specs.Powers.{power}
use Rattle.cubes.specs.Rows.{as_rows}
use Rattle.dealing.specs.Cards.{Named, columns_of}
use Rattle.dealing.specs.Naming.{Grown, named_rows}
use Rattle.dealing.proofs.cards.card_of.Given as goal

abbrev pub invariant-loop-k : goal.invariant-loop-k
invariant-loop-k l =
    (listed l.columns ≡ columns_of (named_rows l.names) (power l.kernel.cokernel) (8 * l.kernel.expression) (as_rows (take l.k l.rows)))
    × Named (named_rows l.names) (quotients (power l.kernel.cokernel) (as_rows (take l.k l.rows)))
    × Grown (named_rows l.initial.names) (named_rows l.names)
