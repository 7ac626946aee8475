use Rattle.std.proofs.Common.{◌*◌, ◌^◌, ◌≤◌, drop}
use Rattle.few.specs.Listed.{listed}
use Rattle.choosing.specs.Tallies.{Onward}
use Rattle.choosing.proofs.tally.walk.Given as goal

abbrev pub invariant-loop-card : goal.invariant-loop-card
invariant-loop-card l =
    Onward (listed l.set) l.tally (drop l.card-index l.cards) l.cards
    × ((l.tally.rows ≤ l.card-index) × (l.tally.before ≤ 2 ^ 20 * l.card-index) × (l.tally.after ≤ 2 ^ 16 * l.card-index))
