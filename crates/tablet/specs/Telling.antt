-- What words say and what is printed.
use Rattle.std.specs.Prelude.{◌≡◌, ℕ, zero, suc, ◌<◌, cond, List, [], ◌∷◌, ◌++◌, length, string_bytes, codes, decimal, String, slice_index_or}
use Rattle.std.specs.declared.alloc.Global.{Global}
use Rattle.sheet.specs.declared.operand.Operand.{Operand}
use Rattle.sheet.specs.declared.operand.Operand.TheVariants.{Zero}
use Rattle.sheet.specs.declared.step.Step.{Step}
use Rattle.sheet.specs.Legal.{is_zero}
use Rattle.sheet.specs.Counting.{how_many, multiplies, adds, negates}

-- the words are spellings of these values, one of each
pub record Spelt {R : Type 0} (spells : List ℕ → R → Type 0) (words : List (String Global)) (values : List R) : Type 0 where
  pub as_many : length values ≡ length words
  pub each : (k : ℕ) (w : String Global) (x : R) → k < length words → spells (string_bytes (slice_index_or words k w)) (slice_index_or values k x)

-- the word at this place is the first that spells no value
pub record FirstWrong {R : Type 0} (spells : List ℕ → R → Type 0) (words : List (String Global)) (at : ℕ) : Type 0 where
  pub within : at < length words
  pub before : (k : ℕ) (w : String Global) → k < at → (x : R) × spells (string_bytes (slice_index_or words k w)) x
  pub wrong : (w : String Global) (x : R) → spells (string_bytes (slice_index_or words at w)) x → ⊥

-- the first line: how many steps multiply, add or subtract, negate
abbrev pub counts_line : List Step → List ℕ
counts_line steps =
    codes "sheet " ++ (decimal (how_many multiplies steps) ++ (32 ∷ (decimal (how_many adds steps) ++ (32 ∷ (decimal (how_many negates steps) ++ (10 ∷ []))))))

-- the line of formula f
abbrev pub out_line : ℕ → List ℕ → List ℕ
out_line f value = codes "out " ++ (decimal f ++ (32 ∷ (value ++ (10 ∷ []))))

-- what is said of formula f: nothing where its output is zero's operand; `values` are the texts of the outputs
abbrev pub formula_line : List Operand → List (List ℕ) → ℕ → List ℕ
formula_line outputs values f = cond (is_zero (slice_index_or outputs f Zero)) [] (out_line f (slice_index_or values f []))

-- the lines of the formulas below n, in order
unfoldable pub lines_below : ℕ → (ℕ → List ℕ) → List ℕ
lines_below zero line = []
lines_below (suc n) line = lines_below n line ++ line n

abbrev pub report_text : List Step → List Operand → List (List ℕ) → List ℕ
report_text steps outputs values = counts_line steps ++ lines_below 16 (formula_line outputs values)
