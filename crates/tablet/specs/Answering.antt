-- What is answered for a file and the words of its measures, kind by kind.
use Rattle.std.specs.Prelude.{ℕ, ◌^◌, List, decimal, String, Result, Ok, Err, ⊤}
use Rattle.std.specs.declared.alloc.Global.{Global}
use Rattle.ring.specs.Ring.{CommRing}
use Rattle.ring.specs.Pairs.{pairs}
use Rattle.ring.specs.Kinds.{word_ring, word_meaning, wheel_ring, wheel_meaning, pair_meaning}
use Rattle.spelling.specs.Texts.{Signed, Paired, spaced}
use Rattle.tablet.specs.declared.kind.Kind.{Kind}
use Rattle.tablet.specs.declared.kind.Kind.TheVariants.{Word, Wheel, Pair}
use Rattle.tablet.specs.declared.error.EvaluationError.{EvaluationError}
use Rattle.tablet.specs.declared.error.EvaluationError.TheVariants.{Memory, WrongMeasure, Refused, NotRun}
use Rattle.tablet.specs.Telling.{Spelt, FirstWrong}
use Rattle.tablet.specs.Evaluating.{Evaluated}

-- the file evaluated at the measures that the words spell, or the first word that spells none, unless memory ran out
abbrev pub Answered : {S R : Type 0} → CommRing S → (R → S) → (List ℕ → R → Type 0) → (R → List ℕ) → List ℕ → List (String Global) → Result (String Global) EvaluationError → Type 0
Answered {S} {R} c meaning spells shows file words (Ok text) = (measures : List R) × Spelt spells words measures × Evaluated c meaning shows file measures (Ok text)
Answered {S} {R} c meaning spells shows file words (Err Memory) = ⊤
Answered {S} {R} c meaning spells shows file words (Err (WrongMeasure at)) = FirstWrong spells words at
Answered {S} {R} c meaning spells shows file words (Err (Refused why place)) = (measures : List R) × Spelt spells words measures × Evaluated c meaning shows file measures (Err (Refused why place))
Answered {S} {R} c meaning spells shows file words (Err (NotRun why)) = (measures : List R) × Spelt spells words measures × Evaluated c meaning shows file measures (Err (NotRun why))

-- words modulo 2^32, wheels modulo 97, pairs over words: what each spells and shows is written out, so that a reader sees it here
abbrev pub ByKind : Kind → List ℕ → List (String Global) → Result (String Global) EvaluationError → Type 0
ByKind Word = Answered word_ring word_meaning (λ t w. Signed (2 ^ 32) t w.value) (λ w. decimal w.value)
ByKind Wheel = Answered wheel_ring wheel_meaning (λ t w. Signed 97 t w.value) (λ w. decimal w.value)
ByKind Pair = Answered (pairs word_ring) (pair_meaning word_meaning) (λ t p. Paired t p.value.value p.rate.value) (λ p. spaced p.value.value p.rate.value)
