use Rattle.std.proofs.Common.{take, vec_items}
use Rattle.table.specs.Of.{style_of}
use Rattle.kernels.specs.Named.{as_kernels}
use Rattle.dealing.specs.Cards.{Deals}
use Rattle.dealing.specs.Naming.{named_rows}
use Rattle.dealing.proofs.cards.deal.Given as goal

abbrev pub invariant-loop-kernel : goal.invariant-loop-kernel
invariant-loop-kernel l = Deals (named_rows l.names) (style_of l.table) (as_kernels (take l.kernel-index l.kernels)) (vec_items l.cards)
