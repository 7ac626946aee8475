use Rattle.std.proofs.Common.{◌≡◌, ℕ, ◌+◌, ◌<◌, List, [], ◌∷◌, ◌++◌, map, length, get_or, take, sym, refl, ap, ◌∙◌, arith}
use Rattle.std.proofs.lemmas.Fn.{says_at}
use Rattle.std.proofs.lemmas.List.{map_more, take_all}
use Rattle.sheet.specs.declared.operation.Operation.{Operation}
use Rattle.emission.specs.Steps.{Link}
use Rattle.emitter.specs.declared.sums.Summand.{Summand}
use Rattle.emitter.specs.Terms.{links_by}
use Rattle.emitter.proofs.Writes.{chained_same, chained_then, room_linked}
use Rattle.emitter.proofs.draft.Draft.link_all.Goals as goal

-- the link of one term more
link_more : (of : Summand → Operation) (ts : List Summand) (i : ℕ) (d : Summand) (o : Operation) → i < length ts → o ≡ of (get_or ts i d)
    → links_by of (take i ts) ++ (o, (get_or ts i d).operand) ∷ [] ≡ links_by of (take (i + 1) ts)
link_more of ts i d o h e =
    let link : Summand → Link = λ t. (of t, t.operand) in
    ap (λ (p : Operation). map link (take i ts) ++ (p, (get_or ts i d).operand) ∷ []) e ∙ sym (map_more link ts i d h)

pub loop-term-preserved : goal.loop-term-preserved
loop-term-preserved g c =
    record {
      room = room_linked _ _ c.link-made.ensures c.loop-term.invariant.room (omega arith);
      chain = λ of same.
          chained_same (chained_then (c.loop-term.invariant.chain of same) c.link-made.ensures)
          (link_more of c.args.terms.now c.loop-term.term-index _ _ c.loop-term-test.true (same _ _ (says_at g.F.Fn c.operation.ensures refl)));
    }

pub returns : goal.returns
returns g c of same = chained_same (c.loop-term.invariant.chain of same) (ap (links_by of) (take_all c.loop-term.term-index c.args.terms.now c.loop-term-test.false))
