-- The steps of a table, written at the front of a buffer.
use Rattle.std.specs.Prelude.{◌≡◌, ℕ, ◌≤◌, List, length, take, drop}
use Rattle.sheet.specs.declared.operand.Operand.{Operand}
use Rattle.sheet.specs.declared.step.Step.{Step}
use Rattle.emission.specs.Steps.{emit_outputs, emit_steps}
use Rattle.table.specs.declared.table.Table.{Table}
use Rattle.table.specs.Of.{order_of, style_of}

-- the steps of a table in its making order, and its outputs
abbrev pub table_steps : Table → List Step
table_steps t = emit_steps (style_of t).expression (order_of t)

abbrev pub table_outputs : Table → List Operand
table_outputs t = emit_outputs (style_of t).expression (order_of t)

-- the steps stand at the front of the buffer, and the places behind them are as they were
pub record Wrote (t : Table) (old : List Step) (used : ℕ) (new : List Step) (outputs : List Operand) : Type 0 where
  pub count : used ≡ length (table_steps t)
  pub few : used ≤ 2000
  pub front : take used new ≡ table_steps t
  pub behind : drop used new ≡ drop used old
  pub long : length new ≡ length old
  pub shown : outputs ≡ table_outputs t
