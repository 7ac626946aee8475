-- A sheet written and read again is that sheet; a file read and written again has the same bytes.
use Rattle.std.specs.Prelude.{◌≡◌, ℕ, ◌<◌, List, length, Ok, Err, Result}
use Rattle.sheet.specs.declared.refusal.Refusal.TheVariants.{ShortBuffer}
use Rattle.sheet.specs.declared.sheet.Sheet.{Sheet}
use Rattle.sheet.specs.Parts.{sheet_steps, SameSheet}
use Rattle.sheet_file.specs.declared.copying.CopyRefusal.{CopyRefusal}
use Rattle.sheet_file.specs.declared.copying.CopyRefusal.TheVariants.{Read, Write}
use Rattle.sheet_file.specs.File.{sheet_bytes}
use Rattle.sheet_file.specs.Reading.{RefusedAt}
use Rattle.sheet_file.specs.Writing.{Puts}

-- a sheet goes through its file unchanged; only want of room refuses it
abbrev pub SheetAgain : Sheet → List ℕ → List ℕ → ℕ → Result Sheet CopyRefusal → Type 0
SheetAgain sheet out out' room (Ok again) = SameSheet sheet again × Puts out 0 (sheet_bytes sheet) (length (sheet_bytes sheet)) out'
SheetAgain sheet out out' room (Err (Write why)) = (length out < length (sheet_bytes sheet)) × (out' ≡ out)
SheetAgain sheet out out' room (Err (Read why place)) = (why ≡ ShortBuffer) × (place ≡ 0) × (room < length (sheet_steps sheet))

-- a file that is accepted is written as it was
abbrev pub FileAgain : List ℕ → List ℕ → List ℕ → ℕ → Result ℕ CopyRefusal → Type 0
FileAgain file out out' room (Ok n) = Puts out 0 file n out'
FileAgain file out out' room (Err (Write why)) = (length out < length file) × (out' ≡ out)
FileAgain file out out' room (Err (Read why place)) = RefusedAt why place file room × (out' ≡ out)
