use Rattle.std.proofs.Common.{List, sym, refl, ◌∙◌, subst}
use Rattle.cubes.specs.Powers.{power}
use Rattle.cubes.specs.Shares.{Lacks, Shared}
use Rattle.cubes.specs.declared.row.Row.{Row}
use Rattle.few.specs.Listed.{listed}
use Rattle.cubes.proofs.Shared.{shared_all, still_apart}
use Rattle.cubes.proofs.expression.Expression.share.Goals as goal

pub invariant_of-self : goal.invariant_of-self
invariant_of-self c =
    let xs = c.rows-row-items.result.now in
    let fresh : Lacks c.args.letter xs = subst (Lacks c.args.letter) (c.rows.ensures.are ∙ sym c.rows-row-items.ensures.are) (c.if-not-lacks.ensures.yes refl) in
    record {
      apart =
          still_apart c.args.letter (power c.args.cube) xs (listed c.loop-k.rows) c.loop-k.k c.loop-k.n c.loop-k-test.false c.loop-k.invariant
          c.if-letter-ge-LETTERS.false fresh c.rows-row-items.ensures.apart;
    }

pub returns : goal.returns
returns c =
    let xs = c.rows-row-items.result.now in
    let fresh : Lacks c.args.letter xs = subst (Lacks c.args.letter) (c.rows.ensures.are ∙ sym c.rows-row-items.ensures.are) (c.if-not-lacks.ensures.yes refl) in
    subst (λ (zs : List Row). Shared c.args.letter (power c.args.cube) zs (listed c.loop-k.rows) c.loop-k.n) c.rows-row-items.ensures.are
    (shared_all c.args.letter (power c.args.cube) xs (listed c.loop-k.rows) c.loop-k.k c.loop-k.n c.loop-k-test.false c.loop-k.invariant
    c.if-letter-ge-LETTERS.false fresh)
