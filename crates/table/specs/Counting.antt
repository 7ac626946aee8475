-- The counts of a table.
use Rattle.std.specs.Prelude.{◌≡◌, ℕ}
use Rattle.algebra.specs.Counts.{additions, multiplications, negations}
use Rattle.algebra.specs.Sums.{counting, up_to}
use Rattle.rewriting.specs.Styles.{over}
use Rattle.sheet.specs.declared.counts.Counts.{Counts}
use Rattle.table.specs.declared.table.Table.{Table}
use Rattle.table.specs.Of.{style_of}

-- over all expressions that stand
pub record CountedOver (t : Table) (c : Counts) : Type 0 where
  pub mul : c.multiplications ≡ over multiplications (style_of t)
  pub add : c.additions ≡ over additions (style_of t)
  pub neg : c.negations ≡ over negations (style_of t)

-- over the first n expressions, for the loop that counts
pub record CountedBelow (t : Table) (n : ℕ) (c : Counts) : Type 0 where
  pub mul : c.multiplications ≡ up_to counting n (λ e. multiplications ((style_of t).expression e))
  pub add : c.additions ≡ up_to counting n (λ e. additions ((style_of t).expression e))
  pub neg : c.negations ≡ up_to counting n (λ e. negations ((style_of t).expression e))
