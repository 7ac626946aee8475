-- Whether a cube divides another, as a test.
use Rattle.std.proofs.Common.{◌≡◌, true, false, ⊎_elim, arith}
use Rattle.std.proofs.lemmas.Bool.{cases_Bool}
use Rattle.algebra.specs.Cubes.{Powers, Divides}
use Rattle.algebra.specs.Rows.{divides_test}
use Rattle.algebra.proofs.Degrees.{divides_decides}
use Rattle.cubes.specs.Powers.{Misses}

pub test_yes : (a b : Powers) → Divides a b → divides_test a b ≡ true
test_yes a b h = (divides_decides a b).1 h

pub test_no : (a b : Powers) → Misses a b → divides_test a b ≡ false
test_no a b m =
    ⊎_elim
    (λ t. (let d = (divides_decides a b).0 t m.0 m.1 in let s = m.2 in absurd (omega arith)))
    (λ f. f)
    (cases_Bool (divides_test a b))
