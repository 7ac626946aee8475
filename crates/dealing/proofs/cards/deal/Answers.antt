use Rattle.std.proofs.Common.{List, take, vec_items, sym, subst, subst₂}
use Rattle.std.proofs.lemmas.List.{map_more, take_all}
use Rattle.kernels.specs.declared.kernel.Kernel.{Kernel as Listed}
use Rattle.table.specs.Of.{style_of}
use Rattle.kernels.specs.Named.{as_kernel, as_kernels}
use Rattle.dealing.specs.Cards.{Deals}
use Rattle.dealing.specs.Naming.{named_rows}
use Rattle.dealing.proofs.Dealts.{deals_more}
use Rattle.dealing.proofs.cards.deal.Goals as goal

pub loop-kernel-preserved : goal.loop-kernel-preserved
loop-kernel-preserved c =
    subst₂ (Deals (named_rows c.card_of.new.names) (style_of c.args.table.now))
    (sym (map_more as_kernel c.args.kernels.now c.loop-kernel.kernel-index _ c.loop-kernel-test.true))
    (sym c.in_ok-push.ensures.items)
    (deals_more (named_rows c.loop-kernel.names) (named_rows c.card_of.new.names) (style_of c.args.table.now) (as_kernels (take c.loop-kernel.kernel-index c.args.kernels.now))
    (vec_items c.loop-kernel.cards) _ c.in_ok-card.card c.loop-kernel.invariant c.in_ok-card.ensures)

pub returns : goal.returns
returns c = record {
  names = named_rows c.loop-kernel.names;
  deals = subst (λ (ks : List Listed). Deals (named_rows c.loop-kernel.names) (style_of c.args.table.now) (as_kernels ks) (vec_items c.loop-kernel.cards))
      (take_all _ _ c.loop-kernel-test.false) c.loop-kernel.invariant;
}
