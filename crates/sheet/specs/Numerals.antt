-- The numerals that are held, and when one more is taken.
use Rattle.std.specs.Prelude.{ℕ, cond, List, Ok, Err, Result, nat_lt}
use Rattle.few.specs.Listed.{listed}
use Rattle.sheet.specs.declared.numerals.Numerals.{Numerals}
use Rattle.sheet.specs.declared.refusal.Refusal.{Refusal}
use Rattle.sheet.specs.declared.refusal.Refusal.TheVariants.{Layout, SmallNumeral}

abbrev pub numerals_list : Numerals → List ℕ
numerals_list ns = listed ns.values

-- a ninth numeral and one below 2 are refused
abbrev pub push_answer : ℕ → ℕ → Result (Unit {0}) Refusal
push_answer held n = cond (nat_lt held 8) (cond (nat_lt n 2) (Err SmallNumeral) (Ok tt)) (Err Layout)
