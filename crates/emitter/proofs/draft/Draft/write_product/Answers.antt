use Rattle.std.proofs.Common.{◌++◌, replicate, refl, ap, ◌∙◌}
use Rattle.sheet.specs.declared.operand.Operand.{Operand}
use Rattle.cubes.specs.Powers.{power}
use Rattle.emission.specs.Steps.{letter_operand}
use Rattle.emitter.proofs.Factors.{factors, factors_none, factors_more, letter_room, multiplied_none, multiplied_same, multiplied_then}
use Rattle.emitter.proofs.draft.Draft.write_product.Goals as goal

pub loop-l-init : goal.loop-l-init
loop-l-init c = rw factors_none (multiplied_none c.args.self.now)

pub multiply-product-requires : goal.multiply-product-requires
multiply-product-requires c = letter_room (letter_operand c.args.results.now) (power c.args.cube) c.loop-l.l c.loop-l.product c.loop-l.invariant c.loop-l-test.true c.requires

pub loop-l-preserved : goal.loop-l-preserved
loop-l-preserved c =
    let f = letter_operand c.args.results.now in
    let a = power c.args.cube in
    let l = c.loop-l.l in
    multiplied_same (multiplied_then (factors f a l) _ c.loop-l.product c.loop-l.invariant c.multiply-product.ensures)
    (ap (λ (o : Operand). factors f a l ++ replicate (a l) o) c.letter_operand.ensures ∙ factors_more f a l) refl refl
