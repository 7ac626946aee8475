-- What a file that passes all checks holds.
use Rattle.std.specs.Prelude.{◌≡◌, ℕ, ◌+◌, List, length}
use Rattle.std.specs.List.{flat_map}
use Rattle.sheet.specs.declared.numerals.Numerals.{Numerals}
use Rattle.sheet.specs.declared.operand.Operand.{Operand}
use Rattle.sheet.specs.declared.refusal.Refusal.{Refusal}
use Rattle.sheet.specs.Legal.{LegalOperands}
use Rattle.sheet.specs.Numerals.{numerals_list}
use Rattle.sheet_file.specs.Bytes.{word_bytes, output_bytes}
use Rattle.sheet_file.specs.Reading.{Opened, StepEntry, AllGood, FirstBad, numerals_part, steps_part, outputs_part}
use Rattle.sheet_file.specs.declared.fault.Fault.{Fault}

pub record Passed (file : List ℕ) (room h u : ℕ) (ns : Numerals) (os : List Operand) : Type 0 where
  pub opened : Opened file room h u
  pub numerals : flat_map word_bytes (numerals_list ns) ≡ numerals_part file h
  pub steps : AllGood 5 (StepEntry h) (steps_part file h u)
  pub outputs : flat_map output_bytes os ≡ outputs_part file h u
  pub sixteen : length os ≡ 16
  pub exist : LegalOperands h u 16 os

-- a section that begins at `start` has a bad entry, and the fault names the first one
pub record FaultIn (why : Refusal) (w : ℕ) (Good : ℕ → List ℕ → Type 0) (start : ℕ) (section : List ℕ) (f : Fault) : Type 0 where
  pub reason : f.why ≡ why
  pub at : ℕ
  pub place : f.place ≡ start + at
  pub first : FirstBad w Good section at
