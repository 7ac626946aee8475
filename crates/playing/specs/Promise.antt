-- The promise: whatever terms are offered and whatever presses follow, every emitted sheet keeps the formulas.
use Rattle.std.specs.Prelude.{◌≡◌, ℕ, suc, ◌<◌, ◌≤◌, List, map, length, get_or, Ok, vec_items, Vec, slice_index_or}
use Rattle.std.specs.declared.alloc.Global.{Global}
use Rattle.ring.specs.Ring.{CommRing}
use Rattle.algebra.specs.Counts.{additions, multiplications, negations}
use Rattle.sheet.specs.declared.sheet.Sheet.{Sheet}
use Rattle.sheet.specs.Counting.{adds, how_many, multiplies, negates}
use Rattle.sheet.specs.Parts.{sheet_steps}
use Rattle.kernels.specs.declared.kernel.Kernel.{Kernel}
use Rattle.rewriting.specs.Book.{Term, accepted, formula_value, under, written}
use Rattle.rewriting.specs.Order.{first_order}
use Rattle.rewriting.specs.Presses.{Like}
use Rattle.rewriting.specs.Styles.{over}
use Rattle.table.specs.declared.table.Table.{Table}
use Rattle.table.specs.Of.{order_of, style_of}
use Rattle.rules.specs.declared.answers.SettleAnswer.{SettleAnswer}
use Rattle.rules.specs.declared.refusals.SettleEnd.TheVariants.{NothingLeft}
use Rattle.rules.specs.Settling.{LeavesNothing}
use Rattle.playing.specs.declared.outcome.Outcome.{Outcome}
use Rattle.playing.specs.declared.outcome.Outcome.TheVariants.{Settle as SettleOut, Emit as EmitOut}
use Rattle.playing.specs.declared.press.Press.{Press}
use Rattle.playing.specs.declared.press.Press.TheVariants.{Settle}
use Rattle.playing.specs.Rules.{Rule}

module _ {S R : Type 0} (c : CommRing S) (meaning : R → S) (measures : List R) where
  -- Values: what a run puts into a formula's output place means exactly the value of that formula's terms.
  abbrev pub ValuesKept : List Term → Vec R Global → Type 0
  ValuesKept terms values =
      (f : ℕ) → f < 16
      → slice_index_or (map meaning (vec_items values)) f c.zero ≡ formula_value c (λ l. get_or (map meaning measures) l c.zero) (under f terms)

-- Counts: multiplications and additions are each at most those of the terms written out, and negations exactly as many.
pub record CountsKept (terms : List Term) (sheet : Sheet) : Type 0 where
  pub mul : how_many multiplies (sheet_steps sheet) ≤ over multiplications (written terms)
  pub add : how_many adds (sheet_steps sheet) ≤ over additions (written terms)
  pub neg : how_many negates (sheet_steps sheet) ≡ over negations (written terms)

-- The style of the terms, before any press.
pub record Opened (terms : List Term) (t : Table) : Type 0 where
  pub rows : Like (written terms) (style_of t)
  pub order : order_of t ≡ first_order

module _ {S R : Type 0} (c : CommRing S) (meaning : R → S) (measures : List R) where
  -- Each table leads to the next by its press and its outcome, as the rules say.
  pub record Played (terms : List Term) (presses : List Press) (outcomes : List (Outcome R)) : Type 0 where
    pub tables : ℕ → Table
    pub opened : Opened terms (tables 0)
    pub as_many : length outcomes ≡ length presses
    pub ruled : (i : ℕ) (p : Press) (o : Outcome R) → i < length presses
        → Rule c meaning measures (slice_index_or presses i p) (slice_index_or outcomes i o) (tables i) (tables (suc i))

  -- The promise about a list of offered terms, a list of presses, and all that was answered.
  pub record Promise (offered : List Term) (presses : List Press) (outcomes : List (Outcome R)) : Type 0 where
    pub played : Played (accepted offered) presses outcomes
    pub values : (i : ℕ) (o : Outcome R) (sheet : Sheet) (values : Vec R Global) → i < length outcomes → slice_index_or outcomes i o ≡ EmitOut (Ok (sheet, values))
        → ValuesKept c meaning measures (accepted offered) values
    pub counts : (i : ℕ) (o : Outcome R) (sheet : Sheet) (values : Vec R Global) → i < length outcomes → slice_index_or outcomes i o ≡ EmitOut (Ok (sheet, values))
        → CountsKept (accepted offered) sheet
    pub nothing_left : (i : ℕ) (p : Press) (o : Outcome R) (w places : ℕ) (list : Vec Kernel Global) (a : SettleAnswer) → i < length presses
        → slice_index_or presses i p ≡ Settle w places → slice_index_or outcomes i o ≡ SettleOut list (Ok a) → a.end ≡ NothingLeft
        → LeavesNothing w (played.tables (suc i))
