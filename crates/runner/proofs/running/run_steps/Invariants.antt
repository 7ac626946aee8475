use Rattle.std.proofs.Common.{◌≡◌, map, length, drop}
use Rattle.sheet.specs.Values.{StepValues}
use Rattle.runner.proofs.running.run_steps.Given as goal

abbrev pub invariant-loop-n : goal.invariant-loop-n
invariant-loop-n g l =
    let m = g.R.Ring in
    StepValues m.ring l.setting.numerals.now (map m.meaning l.setting.measures.now) l.steps l.n (map m.meaning l.bench.cells.now)
    × (drop (length l.steps) l.bench.cells.now ≡ drop (length l.steps) l.initial.bench.cells.now)
    × (length l.bench.cells.now ≡ length l.initial.bench.cells.now)
