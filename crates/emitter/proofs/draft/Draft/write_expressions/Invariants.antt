use Rattle.std.proofs.Common.{◌≡◌, take}
use Rattle.emission.specs.Steps.{emitted, none_made, resulting}
use Rattle.table.specs.Of.{order_of, style_of}
use Rattle.emitter.specs.Appended.{Appended}
use Rattle.emitter.proofs.draft.Draft.write_expressions.Given as goal

abbrev pub invariant-loop-e : goal.invariant-loop-e
invariant-loop-e l = record {
  order : l.e-items ≡ order_of l.table;
  steps : Appended l.initial.self (emitted (style_of l.table).expression none_made 0 (take l.e-index (order_of l.table))) l.self;
  results : l.results ≡ resulting (style_of l.table).expression none_made 0 (take l.e-index (order_of l.table));
}
