use Rattle.std.proofs.Common.{◌≡◌, true, false, sym, ◌∙◌, inl, inr, rules}
use Rattle.std.proofs.lemmas.Bool.{cases_Bool}
use Rattle.algebra.specs.Cubes.{Divides}
use Rattle.cubes.specs.Powers.{power, Misses}
use Rattle.cubes.proofs.Tests.{test_yes, test_no}
use Rattle.cubes.proofs.cube.Cube.divides.Goals as goal

pub returns-clause-test : goal.returns-clause-test
returns-clause-test c =
    let a = power c.args.self in
    let b = power c.args.other in
    let yes : c.all.result ≡ true → Divides a b = search rules in
    let no : c.all.result ≡ false → Misses a b = search rules in
    elim (cases_Bool c.all.result) [
      | inl t ↦ t ∙ sym (test_yes a b (yes t))
      | inr f ↦ f ∙ sym (test_no a b (no f))
    ]
