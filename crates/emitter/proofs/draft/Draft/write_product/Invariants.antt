use Rattle.cubes.specs.Powers.{power}
use Rattle.emission.specs.Steps.{letter_operand}
use Rattle.emitter.specs.Multiplied.{Multiplied}
use Rattle.emitter.proofs.Factors.{factors}
use Rattle.emitter.proofs.draft.Draft.write_product.Given as goal

abbrev pub invariant-loop-l : goal.invariant-loop-l
invariant-loop-l l = Multiplied l.initial.self (factors (letter_operand l.results) (power l.fn.cube) l.l) l.product l.self
