-- What a file is worth at given measures, and what is told of it.
use Rattle.std.specs.Prelude.{◌≡◌, ℕ, List, map, length, vec_items, Vec, String, string_bytes, ◌≢◌, Result, Ok, Err, ⊤}
use Rattle.std.specs.declared.alloc.Global.{Global}
use Rattle.ring.specs.Ring.{CommRing}
use Rattle.runner.specs.declared.refusal.RunRefusal.TheVariants.{Measures}
use Rattle.sheet.specs.declared.sheet.Sheet.{Sheet}
use Rattle.sheet.specs.Parts.{sheet_numerals, sheet_steps, sheet_outputs}
use Rattle.sheet.specs.Values.{StepValues, OutputValues}
use Rattle.sheet_file.specs.File.{sheet_bytes}
use Rattle.sheet_file.specs.Reading.{RefusedAt}
use Rattle.tablet.specs.declared.error.EvaluationError.{EvaluationError}
use Rattle.tablet.specs.declared.error.EvaluationError.TheVariants.{Memory, WrongMeasure, Refused, NotRun}
use Rattle.tablet.specs.Telling.{report_text}

-- the sixteen values are what the sheet's outputs are worth: some cells keep the law of a run, and the outputs are read off them
pub record Worth {S R : Type 0} (c : CommRing S) (meaning : R → S) (sheet : Sheet) (measures values : List R) : Type 0 where
  pub eight : length measures ≡ 8
  pub sixteen : length values ≡ 16
  pub cells : List S
  pub steps : StepValues c (sheet_numerals sheet) (map meaning measures) (sheet_steps sheet) (length (sheet_steps sheet)) cells
  pub outputs : OutputValues c (sheet_numerals sheet) (map meaning measures) cells (sheet_outputs sheet) 16 (map meaning values)

-- only a wrong number of measures stops a run, unless memory ran out
abbrev pub RanValues : {S R : Type 0} → CommRing S → (R → S) → Sheet → List R → Result (Vec R Global) EvaluationError → Type 0
RanValues c meaning sheet measures (Ok values) = Worth c meaning sheet measures (vec_items values)
RanValues c meaning sheet measures (Err Memory) = ⊤
RanValues c meaning sheet measures (Err (WrongMeasure at)) = ⊥
RanValues c meaning sheet measures (Err (Refused why place)) = ⊥
RanValues c meaning sheet measures (Err (NotRun why)) = (why ≡ Measures) × (length measures ≢ 8)

-- the text tells the counts and the outputs' worth of the sheet in the file
pub record Told {S R : Type 0} (c : CommRing S) (meaning : R → S) (shows : R → List ℕ) (file : List ℕ) (measures : List R) (text : List ℕ) : Type 0 where
  pub sheet : Sheet
  pub in_file : sheet_bytes sheet ≡ file
  pub values : List R
  pub worth : Worth c meaning sheet measures values
  pub printed : text ≡ report_text (sheet_steps sheet) (sheet_outputs sheet) (map shows values)

-- what becomes of a file, read with room for 2,000 steps, unless memory ran out
abbrev pub Evaluated : {S R : Type 0} → CommRing S → (R → S) → (R → List ℕ) → List ℕ → List R → Result (String Global) EvaluationError → Type 0
Evaluated c meaning shows file measures (Ok text) = Told c meaning shows file measures (string_bytes text)
Evaluated c meaning shows file measures (Err Memory) = ⊤
Evaluated c meaning shows file measures (Err (WrongMeasure at)) = ⊥
Evaluated c meaning shows file measures (Err (Refused why place)) = RefusedAt why place file 2000
Evaluated c meaning shows file measures (Err (NotRun why)) = (s : Sheet) × (sheet_bytes s ≡ file) × (why ≡ Measures) × (length measures ≢ 8)
