-- One press by the rules: from a table to the outcome and the table behind it.
use Rattle.std.specs.Prelude.{◌≡◌, ℕ, List, length, Ok, Err, vec_items, Result, Vec}
use Rattle.std.specs.declared.alloc.Global.{Global}
use Rattle.ring.specs.Ring.{CommRing}
use Rattle.sheet.specs.declared.sheet.Sheet.{Sheet}
use Rattle.sheet.specs.declared.step.Step.{Step}
use Rattle.tablet.specs.Evaluating.{Worth}
use Rattle.kernels.specs.declared.kernel.Kernel.{Kernel}
use Rattle.kernels.specs.declared.kernel.KernelRefusal.{KernelRefusal}
use Rattle.table.specs.declared.table.Table.{Table}
use Rattle.rules.specs.Calls.{EmitMade, EmitShort, Factors, Lists, SharesOut}
use Rattle.rules.specs.Settling.{Settles}
use Rattle.rules.specs.declared.answers.FactorAnswer.{FactorAnswer}
use Rattle.rules.specs.declared.answers.SettleAnswer.{SettleAnswer}
use Rattle.rules.specs.declared.answers.ShareAnswer.{ShareAnswer}
use Rattle.rules.specs.declared.refusals.FactorRefusal.{FactorRefusal}
use Rattle.rules.specs.declared.refusals.SettleRefusal.{SettleRefusal}
use Rattle.rules.specs.declared.refusals.ShareRefusal.{ShareRefusal}
use Rattle.rules.specs.declared.refusals.EmitRefusal.TheVariants.{ShortBuffer}
use Rattle.playing.specs.declared.outcome.Outcome.{Outcome}
use Rattle.playing.specs.declared.outcome.Outcome.TheVariants.{Kernels as KernelsOut, Factor as FactorOut, Share as ShareOut, Settle as SettleOut, Emit as EmitOut}
use Rattle.playing.specs.declared.press.Press.{Press}
use Rattle.playing.specs.declared.press.Press.TheVariants.{Kernels, Factor, Share, Settle, Emit}

-- Each press works on a list or a buffer of as many places as it says. A sheet that was emitted is run at the measures.
module _ {S R : Type 0} (c : CommRing S) (meaning : R → S) (measures : List R) where
  pub data Rule : Press → Outcome R → Table → Table → Type 0 where
    by_kernels : {t : Table} {places : ℕ} {list : Vec Kernel Global} {answer : Result ℕ KernelRefusal} (l : List Kernel) → length l ≡ places
        → Lists t l (vec_items list) answer → Rule (Kernels places) (KernelsOut list answer) t t
    by_factor : {t t' : Table} {w places : ℕ} {list : Vec Kernel Global} {answer : Result FactorAnswer FactorRefusal} (l : List Kernel) → length l ≡ places
        → Factors w t t' l (vec_items list) answer → Rule (Factor w places) (FactorOut list answer) t t'
    by_share : {t t' : Table} {answer : Result ShareAnswer ShareRefusal} → SharesOut t t' answer → Rule Share (ShareOut answer) t t'
    by_settle : {t t' : Table} {w places : ℕ} {list : Vec Kernel Global} {answer : Result SettleAnswer SettleRefusal} (l : List Kernel) → length l ≡ places
        → Settles w t t' l (vec_items list) answer → Rule (Settle w places) (SettleOut list answer) t t'
    by_emit : {t : Table} {places : ℕ} {sheet : Sheet} {values : Vec R Global} (buffer : List Step) → length buffer ≡ places → EmitMade t buffer sheet
        → Worth c meaning sheet measures (vec_items values) → Rule (Emit places) (EmitOut (Ok (sheet, values))) t t
    by_refusal : {t : Table} {places : ℕ} → EmitShort t places → Rule (Emit places) (EmitOut (Err ShortBuffer)) t t
