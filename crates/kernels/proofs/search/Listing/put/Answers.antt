use Rattle.std.proofs.Common.{sym, ap, ◌∙◌}
use Rattle.std.proofs.lemmas.List.{set_past}
use Rattle.kernels.specs.declared.search.Listing.{Listing}
use Rattle.kernels.proofs.search.Listing.put.Goals as goal
use Rattle.kernels.proofs.search.Listing.put.Goals.{then-self, else-self}

pub returns-clause-written : goal.returns-clause-written
returns-clause-written c =
    elim c.if-self.branch [
      | then-self w ↦ ap (λ (s : Listing). s.out.now) w.self-is
      | else-self w ↦ ap (λ (s : Listing). s.out.now) w.self-is ∙ sym (set_past c.args.self.now.out.now c.args.self.now.count c.args.x w.if-self.false)
    ]
