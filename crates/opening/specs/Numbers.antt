-- The numbers of enter's refusals, a line for each case.
use Rattle.std.specs.Prelude.{ℕ, Ok, Err, Result}
use Rattle.opening.specs.declared.refusal.EnterRefusal.{EnterRefusal}
use Rattle.opening.specs.declared.refusal.EnterRefusal.TheVariants.{Formula, Coefficient, Powers, Degree, DoubleCube, FullFormula, FullStyle, NinthNumeral}

abbrev pub enter_refusal_number : EnterRefusal → ℕ
enter_refusal_number Formula = 1
enter_refusal_number Coefficient = 2
enter_refusal_number Powers = 3
enter_refusal_number Degree = 4
enter_refusal_number DoubleCube = 5
enter_refusal_number FullFormula = 6
enter_refusal_number FullStyle = 7
enter_refusal_number NinthNumeral = 8

-- of an answer: 0 where the term is taken
abbrev pub enter_number : Result (Unit {0}) EnterRefusal → ℕ
enter_number (Ok _) = 0
enter_number (Err why) = enter_refusal_number why
