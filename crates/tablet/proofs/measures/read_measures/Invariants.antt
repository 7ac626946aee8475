use Rattle.std.proofs.Common.{◌≡◌, ℕ, ◌<◌, length, get_or, vec_items, string_bytes, String}
use Rattle.std.specs.declared.alloc.Global.{Global}
use Rattle.tablet.proofs.measures.read_measures.Given as goal

abbrev pub invariant-loop-k : goal.invariant-loop-k
invariant-loop-k g l =
    (length (vec_items l.values) ≡ l.k)
    × ((j : ℕ) (w : String Global) (x : g.row.R.Denot) → j < l.k → g.R.Spelled.spells (string_bytes (get_or l.words j w)) (get_or (vec_items l.values) j x))
