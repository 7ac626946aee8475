use Rattle.std.proofs.Common.{◌-◌, length, take}
use Rattle.std.specs.Fn.{FnReturnsAt}
use Rattle.sheet.specs.declared.operation.Operation.{Operation}
use Rattle.emitter.specs.declared.sums.Summand.{Summand}
use Rattle.emitter.specs.Appended.{HasRoom}
use Rattle.emitter.specs.Chained.{Chained}
use Rattle.emitter.specs.Terms.{Chooses, links_by}
use Rattle.emitter.proofs.draft.Draft.link_all.Given as goal

abbrev pub invariant-loop-term : goal.invariant-loop-term
invariant-loop-term g l = record {
  room : HasRoom l.self (length l.terms - l.term-index);
  chain : (of : Summand → Operation) → Chooses (FnReturnsAt g.F.Fn l.operation) of → Chained l.initial.self l.initial.made (links_by of (take l.term-index l.terms)) l.made l.self;
}
