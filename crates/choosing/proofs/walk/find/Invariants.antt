use Rattle.std.proofs.Common.{◌≡◌, drop}
use Rattle.choosing.specs.Taken.{row_of}
use Rattle.choosing.proofs.walk.find.Given as goal

abbrev pub invariant-loop-c : goal.invariant-loop-c
invariant-loop-c l = row_of l.name (drop l.c-index l.columns) ≡ row_of l.name l.columns
