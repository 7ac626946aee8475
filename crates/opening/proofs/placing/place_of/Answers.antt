use Rattle.std.proofs.Common.{◌≡◌, ℕ, eqb, cond, List, refl, ap, arith, rules, tests}
use Rattle.std.specs.List.{position_or_len}
use Rattle.std.proofs.lemmas.Iterator.{YieldsList-from_slice}
use Rattle.std.proofs.lemmas.Iterator.Search.{position_from_yields_List}
use Rattle.std.proofs.lemmas.List.Recursion.{is_position_or_len}
use Rattle.std.proofs.lemmas.Grind.{common_steps}
use Rattle.rewriting.specs.Book.{place}
use Rattle.opening.proofs.Numerals.{place_within}
use Rattle.opening.proofs.placing.place_of.Goals as goal

pub returns : goal.returns
returns c =
    let ns = c.args.numerals.now in
    let m = c.args.magnitude in
    let first : place ns m ≡ position_or_len (λ n. eqb n m) ns = is_position_or_len (λ (xs : List ℕ). place xs m) (λ n. eqb n m) refl (λ n xs. ap (λ k. cond (eqb n m) 0 k) (omega arith)) ns in
    let found = position_from_yields_List (λ n. eqb n m) _ _ c.position.result c.position.ensures.ran (YieldsList-from_slice ns cc) (λ x b q k. search (rules, tests)) in
    let within = place_within ns m in
    grind (arith, common_steps)
