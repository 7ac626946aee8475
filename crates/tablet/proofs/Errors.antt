-- What a function hands on of an error that it was told.
use Rattle.std.proofs.Common.{◌≡◌, ℕ, List, Ok, Err, Result, String, sym, subst}
use Rattle.std.specs.Prelude.{IsErrAnd}
use Rattle.std.specs.declared.alloc.Global.{Global}
use Rattle.ring.specs.Ring.{CommRing}
use Rattle.sheet.specs.declared.sheet.Sheet.{Sheet}
use Rattle.sheet_file.specs.File.{sheet_bytes}
use Rattle.tablet.specs.declared.error.EvaluationError.{EvaluationError}
use Rattle.tablet.specs.declared.error.EvaluationError.TheVariants.{Memory, WrongMeasure, Refused, NotRun}
use Rattle.tablet.specs.Telling.{Spelt}
use Rattle.tablet.specs.Evaluating.{RanValues, Evaluated}
use Rattle.tablet.specs.Answering.{Answered}

-- what holds of an error holds of the result that hands it on
pub handed_on : {T E : Type 0} (P : Result T E → Type 0) (r : Result T E) (e : E) → IsErrAnd r (λ y. y ≡ e) → P (Err e) → P r
handed_on P (Ok x) e h p = absurd h
handed_on {T} {E} P (Err y) e h p = subst (λ (z : E). P (Err z)) (sym h) p

module _ {S R : Type 0} (c : CommRing S) (meaning : R → S) (shows : R → List ℕ) (file : List ℕ) (measures : List R) where
  -- a file whose sheet is not run
  pub not_run : (s : Sheet) (e : EvaluationError) → sheet_bytes s ≡ file → RanValues c meaning s measures (Err e) → Evaluated c meaning shows file measures (Err e)
  not_run s Memory is h = tt
  not_run s (WrongMeasure at) is h = absurd h
  not_run s (Refused why place) is h = absurd h
  not_run s (NotRun why) is h = (s, is, h.0, h.1)

  -- a file that is evaluated at measures that the words spell
  pub answered : (spells : List ℕ → R → Type 0) (words : List (String Global)) (r : Result (String Global) EvaluationError) → Spelt spells words measures → Evaluated c meaning shows file measures r → Answered c meaning spells shows file words r
  answered spells words (Ok text) spelt h = (measures, spelt, h)
  answered spells words (Err Memory) spelt h = tt
  answered spells words (Err (WrongMeasure at)) spelt h = absurd h
  answered spells words (Err (Refused why place)) spelt h = (measures, spelt, h)
  answered spells words (Err (NotRun why)) spelt h = (measures, spelt, h)
