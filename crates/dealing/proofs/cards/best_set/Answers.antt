use Rattle.std.proofs.Common.{List, sym, subst}
use Rattle.std.proofs.lemmas.Result.{IfOk-weaker}
use Rattle.choosing.specs.declared.card.Card.{Card}
use Rattle.table.specs.Of.{style_of}
use Rattle.kernels.specs.Named.{as_kernels}
use Rattle.dealing.specs.Cards.{Deals}
use Rattle.dealing.proofs.Tables.{distinct_terms, few_terms}
use Rattle.dealing.proofs.Ties.{by_rows}
use Rattle.dealing.proofs.cards.best_set.Goals as goal

pub returns : goal.returns
returns c =
    let t = c.args.table.now in
    let dealt = c.in_ok-cards.ensures in
    let ks = as_kernels c.args.kernels.now in
    IfOk-weaker c.choose.result _ _
    (λ o h. by_rows dealt.names (style_of t) (few_terms t) (distinct_terms t) ks c.as_slice.result.now
    (subst (λ (xs : List Card). Deals dealt.names (style_of t) ks xs) (sym c.as_slice.ensures.value) dealt.deals) c.args.weight o h)
    c.choose.ensures
