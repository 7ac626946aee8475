-- The calls on a closed style: what each answers, and what it leaves in the table and in the list.
use Rattle.std.specs.Prelude.{◌≡◌, ℕ, ◌<◌, ◌≤◌, false, List, map, length, take, drop, Ok, Err, Result}
use Rattle.std.specs.List.{AllZip}
use Rattle.algebra.specs.Counts.{additions, multiplications}
use Rattle.algebra.specs.Cubes.{Powers, Same}
use Rattle.algebra.specs.Rows.{Alike}
use Rattle.cubes.specs.Powers.{power}
use Rattle.sheet.specs.declared.sheet.Sheet.{Sheet}
use Rattle.sheet.specs.declared.step.Step.{Step}
use Rattle.sheet.specs.Numerals.{numerals_list}
use Rattle.sheet.specs.Parts.{sheet_behind, sheet_numerals, sheet_outputs, sheet_steps}
use Rattle.emission.specs.Steps.{emit_outputs}
use Rattle.emission.specs.Promises.{steps_of}
use Rattle.kernels.specs.declared.kernel.Kernel.{Kernel}
use Rattle.kernels.specs.declared.kernel.KernelRefusal.{KernelRefusal}
use Rattle.kernels.specs.Joins.{Joined}
use Rattle.kernels.specs.Lists.{Filled, TooMany}
use Rattle.rewriting.specs.Choosing.{Best, GainsNothing, column_set, factored_with, saved, saving, taken_with}
use Rattle.rewriting.specs.Order.{factored_from, put, shared_from}
use Rattle.rewriting.specs.Presses.{Like}
use Rattle.rewriting.specs.Share.{divided, products_saved, shared}
use Rattle.rewriting.specs.Sharing.{BestPair, NoPair, Spot, shared_cube}
use Rattle.rewriting.specs.Styles.{over}
use Rattle.rewriting.specs.Taking.{Kernel as Name}
use Rattle.table.specs.declared.table.Table.{Table}
use Rattle.table.specs.Of.{order_of, standing_in, style_of}
use Rattle.rules.specs.declared.answers.FactorAnswer.{FactorAnswer}
use Rattle.rules.specs.declared.answers.ShareAnswer.{ShareAnswer}
use Rattle.rules.specs.declared.refusals.FactorRefusal.{FactorRefusal}
use Rattle.rules.specs.declared.refusals.FactorRefusal.TheVariants.{Weight, FullParts, ShortList, NoGain}
use Rattle.rules.specs.declared.refusals.ShareRefusal.{ShareRefusal}
use Rattle.rules.specs.declared.refusals.ShareRefusal.TheVariants.{FullParts as AllParts, NoCube}

-- ---- kernels: those of the expressions that stand, one list behind the other
abbrev pub KernelsOf : Table → List Kernel → Type 0
KernelsOf t xs = Joined (take (standing_in t) t.expressions) xs

-- the list is filled with them, or too short for them and as found
abbrev pub Lists : Table → List Kernel → List Kernel → Result ℕ KernelRefusal → Type 0
Lists t l l' (Ok n) = Filled (KernelsOf t) l l' n
Lists t l l' (Err why) = TooMany (KernelsOf t) l l'

-- kernels by their names: expression and co-kernel (as the crate `kernels` says it for the code)
abbrev pub named : List Kernel → List Name
named xs = map (λ (x : Kernel). record { expression = x.expression; co_kernel = power x.cokernel }) xs

-- ---- factor
abbrev pub Weighs : ℕ → Type 0
Weighs w = (1 ≤ w) × (w ≤ 1000)

-- of the kernels xs of t, no column set saves more than 0 at the weight w
abbrev pub NothingToFactor : ℕ → Table → List Kernel → Type 0
NothingToFactor w t xs = GainsNothing (saving w (style_of t) (named xs)) (style_of t) (named xs)

-- The best column set of the kernels xs, number `set` of the kernel at `place`, is made the next part: which, by how many kernels, what is
-- saved; and the table afterwards. Expressions that no kernel was taken in stay as they were.
pub record FactorMade (w : ℕ) (t : Table) (xs : List Kernel) (a : FactorAnswer) (t' : Table) : Type 0 where
  pub place : ℕ
  pub set : ℕ
  pub best : Best (saving w (style_of t) (named xs)) (style_of t) (named xs) place set
  pub gain : 0 < saving w (style_of t) (named xs) place set
  pub part : a.part ≡ standing_in t
  pub rows : a.rows ≡ length (taken_with (style_of t) (named xs) place set)
  pub columns : a.columns ≡ length (column_set (style_of t) (named xs) place set)
  pub fewer_multiplications : a.multiplications ≡ saved multiplications (style_of t) (factored_with (style_of t) (named xs) place set)
  pub fewer_additions : a.additions ≡ saved additions (style_of t) (factored_with (style_of t) (named xs) place set)
  pub style : Like (factored_with (style_of t) (named xs) place set) (style_of t')
  pub order : order_of t' ≡ put (factored_from (taken_with (style_of t) (named xs) place set)) (standing_in t) (order_of t)
  pub others : (e : ℕ) → e < standing_in t → factored_from (taken_with (style_of t) (named xs) place set) e ≡ false
      → AllZip Alike ((style_of t).expression e) ((style_of t').expression e)

-- a refusal leaves the table; the list is as found, but for 12, where it holds the kernels
abbrev pub FactorRefused : ℕ → Table → List Kernel → List Kernel → FactorRefusal → Type 0
FactorRefused w t l l' Weight = (Weighs w → ⊥) × (l' ≡ l)
FactorRefused w t l l' FullParts = Weighs w × (t.parts ≡ 16) × (l' ≡ l)
FactorRefused w t l l' ShortList = Weighs w × (t.parts < 16) × TooMany (KernelsOf t) l l'
FactorRefused w t l l' NoGain = Weighs w × (t.parts < 16) × ((n : ℕ) × Filled (KernelsOf t) l l' n × NothingToFactor w t (take n l'))

abbrev pub Factors : ℕ → Table → Table → List Kernel → List Kernel → Result FactorAnswer FactorRefusal → Type 0
Factors w t t' l l' (Ok a) = Weighs w × (t.parts < 16) × ((n : ℕ) × Filled (KernelsOf t) l l' n × FactorMade w t (take n l') a t')
Factors w t t' l l' (Err why) = (t' ≡ t) × FactorRefused w t l l' why

-- ---- share: the greatest common cube of two rows, the best, is made the next part; expressions that it divides no row of stay as they were
pub record ShareMade (t : Table) (a : ShareAnswer) (t' : Table) : Type 0 where
  pub first : Spot
  pub second : Spot
  pub best : BestPair (style_of t) first second
  pub cube : Powers
  pub greatest : Same cube (shared_cube (style_of t) first second)
  pub part : a.part ≡ standing_in t
  pub rows : a.rows ≡ over (divided cube) (style_of t)
  pub fewer_multiplications : a.multiplications ≡ products_saved (style_of t) cube
  pub style : Like (shared (style_of t) cube) (style_of t')
  pub order : order_of t' ≡ put (shared_from (style_of t) cube) (standing_in t) (order_of t)
  pub others : (e : ℕ) → e < standing_in t → shared_from (style_of t) cube e ≡ false → AllZip Alike ((style_of t).expression e) ((style_of t').expression e)

abbrev pub ShareRefused : Table → ShareRefusal → Type 0
ShareRefused t AllParts = t.parts ≡ 16
ShareRefused t NoCube = (t.parts < 16) × NoPair (style_of t)

abbrev pub SharesOut : Table → Table → Result ShareAnswer ShareRefusal → Type 0
SharesOut t t' (Ok a) = (t.parts < 16) × ShareMade t a t'
SharesOut t t' (Err why) = (t' ≡ t) × ShareRefused t why

-- ---- emit: the sheet of the table, at the front of the buffer
pub record EmitMade (t : Table) (buffer : List Step) (s : Sheet) : Type 0 where
  pub numerals : sheet_numerals s ≡ numerals_list t.numerals
  pub steps : sheet_steps s ≡ steps_of (style_of t) (order_of t)
  pub outputs : sheet_outputs s ≡ emit_outputs (style_of t).expression (order_of t)
  pub behind : sheet_behind s ≡ drop (length (sheet_steps s)) buffer

-- the buffer is shorter than the sheet
abbrev pub EmitShort : Table → ℕ → Type 0
EmitShort t places = places < length (steps_of (style_of t) (order_of t))
