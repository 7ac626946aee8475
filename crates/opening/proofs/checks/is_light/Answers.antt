use Rattle.std.proofs.Common.{◌≡◌, ℕ, ◌+◌, ◌≤◌, min, List, [], ◌∷◌, fold, ◌∙◌, arith, rules}
use Rattle.std.proofs.iter.runs.Made.{chains}
use Rattle.std.proofs.lemmas.Bool.Decides.{nat_tests}
use Rattle.opening.specs.Checks.{power_sum}
use Rattle.opening.proofs.checks.is_light.Goals as goal

-- a sum that stops at a bound
bounded_sum : (b a : ℕ) (ps : List ℕ) → a ≤ b → fold (λ s p. min (s + p) b) a ps ≡ min (a + power_sum ps) b
bounded_sum b a [] h = omega arith
bounded_sum b a (p ∷ ps) h = bounded_sum b (min (a + p) b) ps (omega arith) ∙ omega arith

sum_is : (c : goal.After-fold) → c.fold.result ≡ min (power_sum c.args.powers.now) 18446744073709551615
sum_is c =
    let e : c.fold.result ≡ fold (λ s p. min (s + p) 18446744073709551615) 0 c.args.powers.now = search (rules, chains) in
    e ∙ bounded_sum 18446744073709551615 0 c.args.powers.now (omega arith) ∙ omega arith

pub returns-clause-yes : goal.returns-clause-yes
returns-clause-yes c = let e = sum_is c in grind (arith, nat_tests)

pub returns-clause-no : goal.returns-clause-no
returns-clause-no c = let e = sum_is c in grind (arith, nat_tests)
