use Rattle.std.proofs.Common.{◌≡◌, drop}
use Rattle.choosing.specs.Taken.{covers, cover}
use Rattle.choosing.proofs.walk.cover_set.Given as goal

abbrev pub invariant-loop-c : goal.invariant-loop-c
invariant-loop-c l =
    cover (covers l.covered) l.columns (drop l.c-index l.set) ≡ cover (covers l.initial.covered) l.columns l.set
