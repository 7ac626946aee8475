-- What the walk counts.
use Rattle.std.specs.Prelude.{◌≡◌, ◌+◌, ◌*◌, ◌^◌, ◌≤◌, true, false, List, length, sum_by}
use Rattle.choosing.specs.declared.card.Card.{Card}
use Rattle.choosing.specs.declared.column.Column.{Column}
use Rattle.choosing.specs.declared.tally.Tally.{Tally}
use Rattle.few.specs.Listed.{listed}
use Rattle.choosing.specs.Taken.{covers, fits, cover, taken, none}
use Rattle.choosing.specs.Savings.{spent, muls_before}

-- one kernel more: taken, and counted with its rows; or left, with nothing changed
pub record Looked (set : List Column) (x : Card) (old new : Tally) : Type 0 where
  pub covered : fits (covers old.covered) (listed x.columns) set ≡ true
      → covers new.covered ≡ cover (covers old.covered) (listed x.columns) set
  pub rows : fits (covers old.covered) (listed x.columns) set ≡ true → new.rows ≡ old.rows + 1
  pub before : fits (covers old.covered) (listed x.columns) set ≡ true → new.before ≡ old.before + spent x.degree set
  pub after : fits (covers old.covered) (listed x.columns) set ≡ true → new.after ≡ old.after + x.degree
  pub left : fits (covers old.covered) (listed x.columns) set ≡ false → new ≡ old
  pub small : (new.rows ≤ old.rows + 1) × (new.before ≤ old.before + 2 ^ 20) × (new.after ≤ old.after + 2 ^ 16)

-- the tally of all the kernels that are taken
pub record Tallied (xs : List Card) (set : List Column) (r : Tally) : Type 0 where
  pub rows : r.rows ≡ length (taken set none xs)
  pub before : r.before ≡ muls_before set (taken set none xs)
  pub after : r.after ≡ sum_by (λ x. x.degree) (taken set none xs)
  pub small : (r.rows ≤ length xs) × (r.before ≤ 2 ^ 20 * length xs) × (r.after ≤ 2 ^ 16 * length xs)

-- what is counted, with what the kernels ys will add, is the tally of xs
pub record Onward (set : List Column) (t : Tally) (ys xs : List Card) : Type 0 where
  pub rows : t.rows + length (taken set (covers t.covered) ys) ≡ length (taken set none xs)
  pub before : t.before + muls_before set (taken set (covers t.covered) ys) ≡ muls_before set (taken set none xs)
  pub after : t.after + sum_by (λ x. x.degree) (taken set (covers t.covered) ys) ≡ sum_by (λ x. x.degree) (taken set none xs)
