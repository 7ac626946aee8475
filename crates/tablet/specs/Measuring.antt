-- What reading words as measures answers.
use Rattle.std.specs.Prelude.{ℕ, List, vec_items, Vec, String, Result, Ok, Err, ⊤}
use Rattle.std.specs.declared.alloc.Global.{Global}
use Rattle.tablet.specs.declared.error.EvaluationError.{EvaluationError}
use Rattle.tablet.specs.declared.error.EvaluationError.TheVariants.{Memory, WrongMeasure, Refused, NotRun}
use Rattle.tablet.specs.Telling.{Spelt, FirstWrong}

-- the values that the words spell, or the first word that spells none, unless memory ran out; no other error comes
abbrev pub Measured : {R : Type 0} → (List ℕ → R → Type 0) → List (String Global) → Result (Vec R Global) EvaluationError → Type 0
Measured spells words (Ok values) = Spelt spells words (vec_items values)
Measured spells words (Err Memory) = ⊤
Measured spells words (Err (WrongMeasure at)) = FirstWrong spells words at
Measured spells words (Err (Refused why place)) = ⊥
Measured spells words (Err (NotRun why)) = ⊥
