-- Chains of steps that are written behind a draft.
use Rattle.std.specs.Prelude.{◌≡◌, List}
use Rattle.sheet.specs.declared.operand.Operand.{Operand}
use Rattle.emission.specs.Steps.{Chain, Link, end_from, steps_from}
use Rattle.emitter.specs.declared.draft.Draft.{Draft}
use Rattle.emitter.specs.Appended.{Appended}

-- the links `ks` on x are written; `result` is what they come to
pub record Chained (old : Draft) (x : Operand) (ks : List Link) (result : Operand) (new : Draft) : Type 0 where
  pub steps : Appended old (steps_from old.next x ks) new
  pub end : result ≡ end_from old.next x ks

-- a chain is written
abbrev pub Built : Draft → Chain → Operand → Draft → Type 0
Built old k result new = Chained old k.start k.links result new
