use Rattle.std.proofs.Common.{◌≡◌, ◌++◌, length, map, string_bytes}
use Rattle.sheet.specs.Parts.{sheet_steps, sheet_outputs}
use Rattle.tablet.specs.Telling.{counts_line, formula_line, lines_below}
use Rattle.tablet.proofs.telling.report.Given as goal

abbrev pub invariant-loop-f : goal.invariant-loop-f
invariant-loop-f g l =
    string_bytes l.text ≡ counts_line (sheet_steps l.sheet) ++ lines_below (length l.yielded) (formula_line (sheet_outputs l.sheet) (map g.R.Spelled.shows l.values))
