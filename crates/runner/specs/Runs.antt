-- What a run answers and what it leaves.
use Rattle.std.specs.Prelude.{◌≡◌, ℕ, cond, List, map, length, drop, Ok, Err, Result, ◌==◌, nat_lt}
use Rattle.ring.specs.Ring.{CommRing}
use Rattle.sheet.specs.declared.sheet.Sheet.{Sheet}
use Rattle.sheet.specs.Parts.{sheet_numerals, sheet_steps, sheet_outputs}
use Rattle.sheet.specs.Values.{StepValues, OutputValues, OnlyCells}
use Rattle.runner.specs.declared.refusal.RunRefusal.{RunRefusal}
use Rattle.runner.specs.declared.refusal.RunRefusal.TheVariants.{Measures, ShortBench, OutputPlaces}

-- the first refusal that applies, if any: by the number of measures, of steps, of cells and of output places
abbrev pub run_answer : ℕ → ℕ → ℕ → ℕ → Result (Unit {0}) RunRefusal
run_answer measures steps cells places =
    cond (measures == 8) (cond (nat_lt cells steps) (Err ShortBench) (cond (places == 16) (Ok tt) (Err OutputPlaces))) (Err Measures)

-- the meanings of cells and outputs after a run, and the cells behind, which are as they were
pub record Ran {S R : Type 0} (c : CommRing S) (meaning : R → S) (sheet : Sheet) (measures cells cells' outputs' : List R) : Type 0 where
  pub steps : StepValues c (sheet_numerals sheet) (map meaning measures) (sheet_steps sheet) (length (sheet_steps sheet)) (map meaning cells')
  pub only : OnlyCells c (sheet_numerals sheet) (map meaning measures) (sheet_steps sheet) (map meaning cells')
  pub outputs : OutputValues c (sheet_numerals sheet) (map meaning measures) (map meaning cells') (sheet_outputs sheet) 16 (map meaning outputs')
  pub behind : drop (length (sheet_steps sheet)) cells' ≡ drop (length (sheet_steps sheet)) cells
