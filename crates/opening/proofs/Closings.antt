-- The table of the accepted terms is sound.
use Rattle.std.proofs.Common.{ℕ, List, sym, subst, arith}
use Rattle.rewriting.specs.Book.{Term, accepted, written}
use Rattle.rewriting.specs.Order.{Ordered, first_order}
use Rattle.rewriting.specs.Presses.{none}
use Rattle.rewriting.proofs.Chains.{like_lowers}
use Rattle.rewriting.proofs.Firsts.{two_thousand, written_closed}
use Rattle.rewriting.proofs.Orders.{ordered_like, written_ordered}
use Rattle.rewriting.proofs.Reached.{closed_like}
use Rattle.table.specs.declared.table.Table.{Table}
use Rattle.table.specs.Of.{style_of}
use Rattle.table.specs.Sound.{Sound}
use Rattle.opening.specs.Holding.{Holds}

pub sound_held : (offered : List Term) (t : Table) (terms : ℕ) → Holds (accepted offered) t terms → Sound t
sound_held offered t terms h =
    let s = written (accepted offered) in
    let few = two_thousand offered s 0 0 none in
    let lower = like_lowers s (style_of t) h.like in
    record {
      closed = closed_like s (style_of t) h.like (written_closed offered);
      ordered = subst (Ordered (style_of t)) (sym h.order) (ordered_like s (style_of t) h.like first_order (written_ordered offered));
      cheap = omega (arith, few, lower.fewer_multiplications, lower.fewer_additions, lower.as_many_negations);
    }
