use Rattle.std.proofs.Common.{◌≡◌, ℕ, ◌||◌, not, eqb, List, refl, sym, ap, ◌∙◌, ap₂}
use Rattle.std.specs.List.{list_any}
use Rattle.std.proofs.lemmas.Bool.{le-ltb}
use Rattle.std.proofs.lemmas.List.Recursion.{same_from_clauses}
use Rattle.rewriting.specs.Book.{holds}
use Rattle.opening.proofs.placing.is_new.Goals as goal

pub returns-then-magnitude-ge2 : goal.returns-then-magnitude-ge2
returns-then-magnitude-ge2 c =
    let m = c.args.magnitude in
    let held : c.contains.result ≡ holds c.as_slice.result.now m
    = c.contains.ensures.value ∙ same_from_clauses (list_any (λ n. eqb n m)) (λ (ns : List ℕ). holds ns m) (λ n b. eqb n m || b) refl (λ _ _. refl) (λ _ _. refl) c.as_slice.result.now in
    ap₂ (λ b h. not (b || h)) (sym (le-ltb m 2 c.if-magnitude-ge2.true)) (held ∙ ap (λ (ns : List ℕ). holds ns m) c.as_slice.ensures)
