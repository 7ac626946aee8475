use Rattle.std.proofs.Common.{◌++◌, option_to_list, replicate}
use Rattle.emitter.specs.Multiplied.{Multiplied}
use Rattle.emitter.proofs.draft.Draft.multiply.Given as goal

abbrev pub invariant-loop-j : goal.invariant-loop-j
invariant-loop-j l = Multiplied l.initial.self (option_to_list l.initial.product ++ replicate l._j l.factor) l.product l.self
