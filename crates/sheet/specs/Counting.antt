-- The counts of a run of steps.
use Rattle.std.specs.Prelude.{◌≡◌, ℕ, ◌+◌, ◌<◌, Bool, true, false, cond, List, count_by}
use Rattle.sheet.specs.declared.operation.Operation.{Operation}
use Rattle.sheet.specs.declared.operation.Operation.TheVariants.{Add, Sub, Mul, Neg}
use Rattle.sheet.specs.declared.step.Step.{Step}
use Rattle.sheet.specs.declared.counts.Counts.{Counts}

abbrev pub multiplies : Operation → Bool
multiplies Add = false
multiplies Sub = false
multiplies Mul = true
multiplies Neg = false

-- a subtraction counts as an addition
abbrev pub adds : Operation → Bool
adds Add = true
adds Sub = true
adds Mul = false
adds Neg = false

abbrev pub negates : Operation → Bool
negates Add = false
negates Sub = false
negates Mul = false
negates Neg = true

-- how many steps have an operation that passes the test
abbrev pub how_many : (Operation → Bool) → List Step → ℕ
how_many test steps = count_by (λ s. test s.operation) steps

pub record Counted (steps : List Step) (c : Counts) : Type 0 where
  pub multiplications : c.multiplications ≡ how_many multiplies steps
  pub additions : c.additions ≡ how_many adds steps
  pub negations : c.negations ≡ how_many negates steps

-- each count is below a bound
pub record Below (c : Counts) (bound : ℕ) : Type 0 where
  pub multiplications : c.multiplications < bound
  pub additions : c.additions < bound
  pub negations : c.negations < bound

-- the counts with one more step of an operation
pub record OneMore (c : Counts) (o : Operation) (d : Counts) : Type 0 where
  pub multiplications : d.multiplications ≡ c.multiplications + cond (multiplies o) 1 0
  pub additions : d.additions ≡ c.additions + cond (adds o) 1 0
  pub negations : d.negations ≡ c.negations + cond (negates o) 1 0
