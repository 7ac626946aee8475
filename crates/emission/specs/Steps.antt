-- The steps that expressions emit, in a making order.
use Rattle.std.specs.Prelude.{ℕ, zero, suc, ◌+◌, ◌-◌, Bool, true, false, cond, List, [], ◌∷◌, ◌++◌, map, length, take, replicate, nat_lt, slice_index_or, slice_set}
use Rattle.sheet.specs.declared.operand.Operand.{Operand}
use Rattle.sheet.specs.declared.operand.Operand.TheVariants.{Measure, Numeral, One, Zero, ResultOf}
use Rattle.sheet.specs.declared.operation.Operation.{Operation}
use Rattle.sheet.specs.declared.operation.Operation.TheVariants.{Add, Sub, Mul, Neg}
use Rattle.sheet.specs.declared.step.Step.{Step}
use Rattle.algebra.specs.Cubes.{Powers, letters}
use Rattle.algebra.specs.Rows.{Row}

-- the letters of a cube below n, ascending, each as often as its power says; and all of them
unfoldable pub letters_below : Powers → ℕ → List ℕ
letters_below c zero = []
letters_below c (suc n) = letters_below c n ++ replicate (c n) n

abbrev pub letters_in : Powers → List ℕ
letters_in c = letters_below c letters

-- an operation with its right operand
abbrev pub Link : Type 0
Link = Operation × Operand

-- an operand, and what is done to it, one link after another
pub record Chain : Type 0 where
  pub start : Operand
  pub links : List Link

-- each link is a step on the result of the one before; the first has the number n
abbrev pub steps_from : ℕ → Operand → List Link → List Step
steps_from n x [] = []
steps_from n x (k ∷ ks) = record { operation = k.0; left = x; right = k.1 } ∷ steps_from (n + 1) (ResultOf n) ks

-- the operand that a chain comes to
abbrev pub end_from : ℕ → Operand → List Link → Operand
end_from n x [] = x
end_from n x (k ∷ ks) = end_from (n + 1) (ResultOf n) ks

abbrev pub chain_steps : ℕ → Chain → List Step
chain_steps n c = steps_from n c.start c.links

abbrev pub chain_end : ℕ → Chain → Operand
chain_end n c = end_from n c.start c.links

-- factors multiplied from the left
abbrev pub product_chain : List Operand → Chain
product_chain [] = record { start = One; links = [] }
product_chain (x ∷ xs) = record { start = x; links = map (λ y. (Mul, y)) xs }

-- a row's sign (true: negative) and the operand of its product
abbrev pub Signed : Type 0
Signed = Bool × Operand

abbrev pub signed_link : Signed → Link
signed_link t = (cond t.0 Sub Add, t.1)

-- all of them negative: added from the first, and negated
abbrev pub negated : List Operand → Chain
negated [] = record { start = Zero; links = [] }
negated (x ∷ xs) = record { start = x; links = map (λ y. (Add, y)) xs ++ (Neg, Zero) ∷ [] }

-- from the first positive one; `before` are the negative ones that stand before `ts`
abbrev pub sum_behind : List Operand → List Signed → Chain
sum_behind before [] = negated before
sum_behind before ((true, x) ∷ ts) = sum_behind (before ++ x ∷ []) ts
sum_behind before ((false, x) ∷ ts) = record { start = x; links = map (λ y. (Sub, y)) before ++ map signed_link ts }

abbrev pub sum_chain : List Signed → Chain
sum_chain ts = sum_behind [] ts

-- the operand of a letter, where `results` are those of the expressions made so far, by number
abbrev pub letter_operand : List Operand → ℕ → Operand
letter_operand results l = cond (nat_lt l 8) (Measure l) (cond (nat_lt l 16) (Numeral (l - 8)) (slice_index_or results l Zero))

abbrev pub row_chain : List Operand → Row → Chain
row_chain results r = product_chain (map (letter_operand results) (letters_in r.cube))

-- the products of the rows, one after another, and their operands
abbrev pub products : List Operand → ℕ → List Row → List Step
products results n [] = []
products results n (r ∷ rows) =
    chain_steps n (row_chain results r) ++ products results (n + length (row_chain results r).links) rows

abbrev pub summands : List Operand → ℕ → List Row → List Signed
summands results n [] = []
summands results n (r ∷ rows) =
    (r.negative, chain_end n (row_chain results r)) ∷ summands results (n + length (row_chain results r).links) rows

-- an expression: its products, then their sum
abbrev pub expression_steps : List Operand → ℕ → List Row → List Step
expression_steps results n rows =
    products results n rows ++ chain_steps (n + length (products results n rows)) (sum_chain (summands results n rows))

abbrev pub expression_result : List Operand → ℕ → List Row → Operand
expression_result results n rows =
    chain_end (n + length (products results n rows)) (sum_chain (summands results n rows))

-- the expressions in a making order; each result is noted under its number
abbrev pub emitted : (ℕ → List Row) → List Operand → ℕ → List ℕ → List Step
emitted rows results n [] = []
emitted rows results n (e ∷ es) =
    expression_steps results n (rows e)
    ++ emitted rows (slice_set results e (expression_result results n (rows e))) (n + length (expression_steps results n (rows e))) es

abbrev pub resulting : (ℕ → List Row) → List Operand → ℕ → List ℕ → List Operand
resulting rows results n [] = results
resulting rows results n (e ∷ es) =
    resulting rows (slice_set results e (expression_result results n (rows e))) (n + length (expression_steps results n (rows e))) es

-- nothing made yet
abbrev pub none_made : List Operand
none_made = replicate letters Zero

-- the steps of a style, the results of all expressions, and the outputs
abbrev pub emit_steps : (ℕ → List Row) → List ℕ → List Step
emit_steps rows order = emitted rows none_made 0 order

abbrev pub emit_results : (ℕ → List Row) → List ℕ → List Operand
emit_results rows order = resulting rows none_made 0 order

abbrev pub emit_outputs : (ℕ → List Row) → List ℕ → List Operand
emit_outputs rows order = take 16 (emit_results rows order)
