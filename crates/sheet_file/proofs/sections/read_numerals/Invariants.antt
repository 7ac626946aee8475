use Rattle.std.proofs.Common.{◌≡◌, ◌++◌, ◌*◌, drop}
use Rattle.std.specs.List.{flat_map}
use Rattle.sheet.specs.Numerals.{numerals_list}
use Rattle.sheet_file.specs.Bytes.{word_bytes}
use Rattle.sheet_file.proofs.sections.read_numerals.Given as goal

abbrev pub invariant-loop-k : goal.invariant-loop-k
invariant-loop-k l = flat_map word_bytes (numerals_list l.numerals) ++ drop (2 * l.k) l.section.bytes.now ≡ l.section.bytes.now
