-- The numbers of a run's refusals, a line for each case.
use Rattle.std.specs.Prelude.{ℕ}
use Rattle.runner.specs.declared.refusal.RunRefusal.{RunRefusal}
use Rattle.runner.specs.declared.refusal.RunRefusal.TheVariants.{Measures, ShortBench, OutputPlaces}

abbrev pub run_refusal_number : RunRefusal → ℕ
run_refusal_number Measures = 14
run_refusal_number ShortBench = 15
run_refusal_number OutputPlaces = 16
