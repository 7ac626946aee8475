-- The numbers of the refusals, a line for each case.
use Rattle.std.specs.Prelude.{ℕ}
use Rattle.rules.specs.declared.refusals.EmitRefusal.{EmitRefusal}
use Rattle.rules.specs.declared.refusals.EmitRefusal.TheVariants.{ShortBuffer}
use Rattle.rules.specs.declared.refusals.FactorRefusal.{FactorRefusal}
use Rattle.rules.specs.declared.refusals.FactorRefusal.TheVariants.{Weight, FullParts, ShortList, NoGain}
use Rattle.rules.specs.declared.refusals.SettleEnd.{SettleEnd}
use Rattle.rules.specs.declared.refusals.SettleEnd.TheVariants.{ShortList as ListShort, FullParts as PartsFull, NothingLeft}
use Rattle.rules.specs.declared.refusals.SettleRefusal.{SettleRefusal}
use Rattle.rules.specs.declared.refusals.SettleRefusal.TheVariants.{Weight as WeightOut}
use Rattle.rules.specs.declared.refusals.ShareRefusal.{ShareRefusal}
use Rattle.rules.specs.declared.refusals.ShareRefusal.TheVariants.{FullParts as AllParts, NoCube}

abbrev pub factor_number : FactorRefusal → ℕ
factor_number Weight = 10
factor_number FullParts = 11
factor_number ShortList = 9
factor_number NoGain = 12

abbrev pub share_number : ShareRefusal → ℕ
share_number AllParts = 11
share_number NoCube = 12

abbrev pub settle_number : SettleRefusal → ℕ
settle_number WeightOut = 10

abbrev pub end_number : SettleEnd → ℕ
end_number ListShort = 9
end_number PartsFull = 11
end_number NothingLeft = 12

abbrev pub emit_number : EmitRefusal → ℕ
emit_number ShortBuffer = 13
