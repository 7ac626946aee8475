use Rattle.std.proofs.Common.{take}
use Rattle.sheet.specs.Counting.{Counted}
use Rattle.sheet.proofs.counts.Counts.of.Given as goal

abbrev pub invariant-loop-step : goal.invariant-loop-step
invariant-loop-step l = Counted (take l.step-index l.steps) l.counts
