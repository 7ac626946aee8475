use Rattle.std.proofs.Common.{map}
use Rattle.sheet.specs.Values.{OutputValues}
use Rattle.runner.proofs.running.run_outputs.Given as goal

abbrev pub invariant-loop-k : goal.invariant-loop-k
invariant-loop-k g l =
    let m = g.R.Ring in
    OutputValues m.ring l.setting.numerals.now (map m.meaning l.setting.measures.now) (map m.meaning l.bench.cells.now) l.operands l.k (map m.meaning l.outputs)
