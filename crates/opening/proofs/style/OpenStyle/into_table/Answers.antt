use mathlib.Core.Logic.{∥∥₁_map}
use Rattle.opening.proofs.Closings.{sound_held}
use Rattle.opening.proofs.style.OpenStyle.into_table.Goals as goal

pub returns-clause-sound : goal.returns-clause-sound
returns-clause-sound c =
    let s = c.args.self in
    ∥∥₁_map s.noted (λ h. sound_held h.0 s.table s.terms h.1)
