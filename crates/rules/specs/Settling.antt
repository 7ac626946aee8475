-- Settle: factor while it is accepted; after 12 share; after an accepted share factor again.
use Rattle.std.specs.Prelude.{◌≡◌, ℕ, ◌+◌, List, Ok, Err, Result}
use Rattle.kernels.specs.declared.kernel.Kernel.{Kernel}
use Rattle.rewriting.specs.Sharing.{NothingShared}
use Rattle.table.specs.declared.table.Table.{Table}
use Rattle.table.specs.Of.{style_of}
use Rattle.rules.specs.declared.answers.FactorAnswer.{FactorAnswer}
use Rattle.rules.specs.declared.answers.SettleAnswer.{SettleAnswer}
use Rattle.rules.specs.declared.answers.ShareAnswer.{ShareAnswer}
use Rattle.rules.specs.declared.refusals.FactorRefusal.TheVariants.{FullParts, NoGain, ShortList}
use Rattle.rules.specs.declared.refusals.SettleEnd.{SettleEnd}
use Rattle.rules.specs.declared.refusals.SettleEnd.TheVariants.{FullParts as PartsFull, NothingLeft, ShortList as ListShort}
use Rattle.rules.specs.declared.refusals.SettleRefusal.{SettleRefusal}
use Rattle.rules.specs.declared.refusals.ShareRefusal.TheVariants.{FullParts as AllParts, NoCube}
use Rattle.rules.specs.Calls.{Factors, KernelsOf, NothingToFactor, SharesOut, Weighs}

-- nothing made, and the end; one factor or one share more
abbrev pub ended : SettleEnd → SettleAnswer
ended e = record { end = e; factors = 0; shares = 0; multiplications = 0; additions = 0 }

abbrev pub with_factor : FactorAnswer → SettleAnswer → SettleAnswer
with_factor a r = record {
  end = r.end;
  factors = 1 + r.factors;
  shares = r.shares;
  multiplications = a.multiplications + r.multiplications;
  additions = a.additions + r.additions;
}

abbrev pub with_share : ShareAnswer → SettleAnswer → SettleAnswer
with_share a r = record {
  end = r.end;
  factors = r.factors;
  shares = 1 + r.shares;
  multiplications = a.multiplications + r.multiplications;
  additions = r.additions;
}

-- what a settle presses next
pub data Turn : Type 0 where
  factoring : Turn
  sharing : Turn

-- the course of a settle at the weight w, from a turn, a table and a list to the answer, the table and the list
pub data Course (w : ℕ) : Turn → Table → List Kernel → SettleAnswer → Table → List Kernel → Type 0 where
  factored : {t t₁ t' : Table} {l l₁ l' : List Kernel} {a : FactorAnswer} {r : SettleAnswer}
      → Factors w t t₁ l l₁ (Ok a) → Course w factoring t₁ l₁ r t' l' → Course w factoring t l (with_factor a r) t' l'
  no_gain : {t t₁ t' : Table} {l l₁ l' : List Kernel} {r : SettleAnswer}
      → Factors w t t₁ l l₁ (Err NoGain) → Course w sharing t₁ l₁ r t' l' → Course w factoring t l r t' l'
  short_list : {t t₁ : Table} {l l₁ : List Kernel} → Factors w t t₁ l l₁ (Err ShortList) → Course w factoring t l (ended ListShort) t₁ l₁
  full_parts : {t t₁ : Table} {l l₁ : List Kernel} → Factors w t t₁ l l₁ (Err FullParts) → Course w factoring t l (ended PartsFull) t₁ l₁
  shared : {t t₁ t' : Table} {l l' : List Kernel} {a : ShareAnswer} {r : SettleAnswer}
      → SharesOut t t₁ (Ok a) → Course w factoring t₁ l r t' l' → Course w sharing t l (with_share a r) t' l'
  no_part : {t t₁ : Table} {l : List Kernel} → SharesOut t t₁ (Err AllParts) → Course w sharing t l (ended PartsFull) t₁ l
  no_cube : {t t₁ : Table} {l : List Kernel} → SharesOut t t₁ (Err NoCube) → Course w sharing t l (ended NothingLeft) t₁ l

abbrev pub Settles : ℕ → Table → Table → List Kernel → List Kernel → Result SettleAnswer SettleRefusal → Type 0
Settles w t t' l l' (Ok a) = Weighs w × Course w factoring t l a t' l'
Settles w t t' l l' (Err why) = (Weighs w → ⊥) × (t' ≡ t) × (l' ≡ l)

-- Nothing is left to save: no column set of the kernels that stand saves more than 0 at the weight w, and no cube of degree two or more
-- divides two rows.
pub record LeavesNothing (w : ℕ) (t : Table) : Type 0 where
  pub kernels : List Kernel
  pub are : KernelsOf t kernels
  pub no_set : NothingToFactor w t kernels
  pub no_cube : NothingShared (style_of t)
