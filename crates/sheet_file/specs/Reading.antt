-- Which answer a reader gives to each file.
use Rattle.std.specs.Prelude.{◌≡◌, ℕ, ◌+◌, ◌*◌, ◌<◌, ◌≤◌, true, ◌⊎◌, List, length, take, drop, slice_index}
use Rattle.std.specs.List.{between, flat_map}
use Rattle.sheet.specs.declared.operand.Operand.{Operand}
use Rattle.sheet.specs.declared.step.Step.{Step}
use Rattle.sheet.specs.declared.refusal.Refusal.{Refusal}
use Rattle.sheet.specs.declared.refusal.Refusal.TheVariants.{Layout, ShortBuffer, SmallNumeral, IllegalStep, IllegalOutput}
use Rattle.sheet.specs.Legal.{legal_step, legal_operand, LegalSteps}
use Rattle.sheet_file.specs.Bytes.{word_bytes, step_bytes, output_bytes}
use Rattle.sheet_file.specs.File.{steps_start, outputs_start, file_length}

-- the number of 16 bits at a place
abbrev pub word_at : List ℕ → ℕ → ℕ
word_at file p = slice_index file p + 256 * slice_index file (p + 1)

-- the four parts of a header, for h numerals and u steps
abbrev pub Version : List ℕ → Type 0
Version file = (13 ≤ length file) × (slice_index file 0 ≡ 3)

abbrev pub NumeralsPair : List ℕ → ℕ → Type 0
NumeralsPair file h = (h ≤ 8) × (word_at file 1 ≡ 13) × (word_at file 3 ≡ 2 * h)

abbrev pub StepsPair : List ℕ → ℕ → ℕ → Type 0
StepsPair file h u = (u ≤ 2000) × (word_at file 5 ≡ steps_start h) × (word_at file 7 ≡ 5 * u)

abbrev pub OutputsPair : List ℕ → ℕ → ℕ → Type 0
OutputsPair file h u = (word_at file 9 ≡ outputs_start h u) × (word_at file 11 ≡ 32) × (length file ≡ file_length h u)

pub record LaidOut (file : List ℕ) (h u : ℕ) : Type 0 where
  pub version : Version file
  pub numerals : NumeralsPair file h
  pub steps : StepsPair file h u
  pub outputs : OutputsPair file h u

-- the place of the first of the four parts that is wrong
abbrev pub BrokenLayout : List ℕ → ℕ → Type 0
BrokenLayout file place =
    ((place ≡ 0) × (Version file → ⊥))
    ⊎ (((place ≡ 1) × Version file × ((h : ℕ) → NumeralsPair file h → ⊥))
    ⊎ (((place ≡ 5) × Version file × ((h : ℕ) × NumeralsPair file h × ((u : ℕ) → StepsPair file h u → ⊥)))
    ⊎ ((place ≡ 9) × Version file × ((h : ℕ) × (u : ℕ) × NumeralsPair file h × StepsPair file h u × (OutputsPair file h u → ⊥)))))

-- the three sections
abbrev pub numerals_part : List ℕ → ℕ → List ℕ
numerals_part file h = between 13 (steps_start h) file

abbrev pub steps_part : List ℕ → ℕ → ℕ → List ℕ
steps_part file h u = between (steps_start h) (outputs_start h u) file

abbrev pub outputs_part : List ℕ → ℕ → ℕ → List ℕ
outputs_part file h u = between (outputs_start h u) (file_length h u) file

-- bytes stand for a numeral, for a step at its place, for an output
abbrev pub NumeralEntry : ℕ → List ℕ → Type 0
NumeralEntry k bytes = (n : ℕ) × (2 ≤ n) × (word_bytes n ≡ bytes)

abbrev pub StepEntry : ℕ → ℕ → List ℕ → Type 0
StepEntry held k bytes = (s : Step) × (legal_step held k s ≡ true) × (step_bytes s ≡ bytes)

abbrev pub OutputEntry : ℕ → ℕ → ℕ → List ℕ → Type 0
OutputEntry held used k bytes = (o : Operand) × (legal_operand held used o ≡ true) × (output_bytes o ≡ bytes)

-- the k-th entry of w bytes of a section
abbrev pub entry : ℕ → List ℕ → ℕ → List ℕ
entry w section k = take w (drop (w * k) section)

abbrev pub AllGood : ℕ → (ℕ → List ℕ → Type 0) → List ℕ → Type 0
AllGood w Good section = (k : ℕ) → w * k < length section → Good k (entry w section k)

-- the first entry that is not good begins at the place `at` of the section
pub record FirstBad (w : ℕ) (Good : ℕ → List ℕ → Type 0) (section : List ℕ) (at : ℕ) : Type 0 where
  pub number : ℕ
  pub place : at ≡ w * number
  pub within : at < length section
  pub before : (k : ℕ) → k < number → Good k (entry w section k)
  pub bad : Good number (entry w section number) → ⊥

-- steps that were read from a section stand at the front of the buffer; what was behind them stays
pub record Filled (held : ℕ) (section : List ℕ) (buffer buffer' : List Step) : Type 0 where
  pub count : ℕ
  pub whole : 5 * count ≡ length section
  pub bytes : flat_map step_bytes (take count buffer') ≡ section
  pub legal : LegalSteps held count buffer'
  pub behind : drop count buffer' ≡ drop count buffer

-- a file in the right layout, whose steps fit the buffer
pub record Opened (file : List ℕ) (room h u : ℕ) : Type 0 where
  pub layout : LaidOut file h u
  pub fits : u ≤ room

-- why a file is refused, at which place, where the buffer has `room` places
abbrev pub RefusedAt : Refusal → ℕ → List ℕ → ℕ → Type 0
RefusedAt Layout place file room = BrokenLayout file place
RefusedAt ShortBuffer place file room = (h : ℕ) × (u : ℕ) × LaidOut file h u × (room < u) × (place ≡ 0)
RefusedAt SmallNumeral place file room =
    (h : ℕ) × (u : ℕ) × (at : ℕ) × Opened file room h u × (place ≡ 13 + at)
    × FirstBad 2 NumeralEntry (numerals_part file h) at
RefusedAt IllegalStep place file room =
    (h : ℕ) × (u : ℕ) × (at : ℕ) × Opened file room h u × (place ≡ steps_start h + at)
    × AllGood 2 NumeralEntry (numerals_part file h)
    × FirstBad 5 (StepEntry h) (steps_part file h u) at
RefusedAt IllegalOutput place file room =
    (h : ℕ) × (u : ℕ) × (at : ℕ) × Opened file room h u × (place ≡ outputs_start h u + at)
    × AllGood 2 NumeralEntry (numerals_part file h)
    × AllGood 5 (StepEntry h) (steps_part file h u)
    × FirstBad 2 (OutputEntry h u) (outputs_part file h u) at
