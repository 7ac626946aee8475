use Rattle.std.proofs.Common.{◌≡◌, take}
use Rattle.cubes.specs.Rows.{as_rows}
use Rattle.few.specs.Listed.{listed}
use Rattle.emission.specs.Steps.{products, summands}
use Rattle.emitter.specs.Appended.{Appended}
use Rattle.emitter.specs.Terms.{signed}
use Rattle.emitter.proofs.draft.Draft.write_products.Given as goal

abbrev pub invariant-loop-row : goal.invariant-loop-row
invariant-loop-row l = record {
  steps : Appended l.initial.self (products l.results l.initial.self.next (as_rows (take l.row-index l.rows))) l.self;
  terms : signed (listed l.terms) ≡ summands l.results l.initial.self.next (as_rows (take l.row-index l.rows));
}
