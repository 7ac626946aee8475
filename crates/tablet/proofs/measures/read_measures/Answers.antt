use Rattle.std.proofs.Common.{ℕ, List, get_or, vec_items, string_bytes, sym, ap, ◌∙◌, subst, arith}
use Rattle.std.proofs.lemmas.List.{get_or_default}
use Rattle.tablet.proofs.Texts.{item_at}
use Rattle.tablet.proofs.measures.read_measures.Goals as goal

pub returns-in_default : goal.returns-in_default
returns-in_default g c =
    let values = vec_items c.loop-k.values in
    let long = c.loop-k.invariant.0 in
    record {
      within = c.loop-k-test.true;
      before = λ j w h. (let i = item_at values j (omega arith) in (i.0, subst (g.R.Spelled.spells (string_bytes (get_or c.args.words.now j w))) (i.1 i.0) (c.loop-k.invariant.1 j w i.0 h)));
      wrong = λ w x s. c.in_default.ensures x (subst (λ (bs : List ℕ). g.R.Spelled.spells bs x) (sym (c.as_str.ensures.value ∙ ap string_bytes (c.index-words-k.is ∙ get_or_default c.args.words.now c.loop-k.k _ w c.loop-k-test.true))) s);
    }
