-- The list that is kept.
use Rattle.std.specs.Prelude.{ℕ, List, take}
use Rattle.few.specs.declared.few.Few.{Few}

-- the items, in their order
abbrev pub listed : {T : Type 0} {N : ℕ} → Few T N → List T
listed xs = take xs.len xs.items
