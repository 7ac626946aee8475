-- Bytes written into a buffer, and the refusal of a short one.
use Rattle.std.specs.Prelude.{◌≡◌, ℕ, ◌+◌, ◌<◌, List, ◌++◌, length, take, drop}
use Rattle.sheet.specs.declared.operand.Operand.{Operand}
use Rattle.sheet.specs.declared.step.Step.{Step}
use Rattle.sheet.specs.Numbers.{operand_number}
use Rattle.sheet_file.specs.declared.writing.WriteRefusal.{WriteRefusal}
use Rattle.sheet_file.specs.declared.writing.WriteRefusal.TheVariants.{ShortBuffer}

abbrev pub write_refusal_number : WriteRefusal → ℕ
write_refusal_number ShortBuffer = 17

-- `bytes` stand from `at` to `end` in what was `out`; the rest is as it was (the emitter's steps have such a word over drafts)
pub record Puts (out : List ℕ) (at : ℕ) (bytes : List ℕ) (end : ℕ) (out' : List ℕ) : Type 0 where
  pub place : end ≡ at + length bytes
  pub front : take end out' ≡ take at out ++ bytes
  pub behind : drop end out' ≡ drop end out

-- numbers that two bytes hold
abbrev pub Small : Operand → Type 0
Small o = operand_number o < 65536

abbrev pub SmallStep : Step → Type 0
SmallStep s = Small s.left × Small s.right
