use Rattle.std.proofs.Common.{refl}
use Rattle.cubes.specs.Powers.{power}
use Rattle.kernels.proofs.Letters.{barren_before, fits_common, leads}
use Rattle.kernels.proofs.node.Node.step.Goals as goal

pub returns-then-has_before : goal.returns-then-has_before
returns-then-has_before c =
    let w = c.if-has_before.ensures.yes refl in
    barren_before _ (power c.args.self.now.cube) _ c.requires.letter (power c.in_ok-x.x) c.in_ok-x.ensures.1
    _ c.quotient-by_letter.ensures (power c.common_cube-c.result) c.common_cube-c.ensures w.0 w.1 w.2

pub returns-in_err-cube : goal.returns-in_err-cube
returns-in_err-cube c =
    rw c.from_residual-in_err-cube.ensures
    (absurd (fits_common _ (power c.args.self.now.cube) _ c.requires.letter (power c.in_ok-x.x) c.in_ok-x.ensures.1
    _ c.quotient-by_letter.ensures (power c.common_cube-c.result) c.common_cube-c.ensures
    (power c.in_ok-multiply.field-0) c.in_ok-multiply.ensures.0
    c.requires.small (c.if-not-has_pair.ensures.yes refl) c.in_err-cube.ensures))

pub returns : goal.returns
returns c =
    leads _ (power c.args.self.now.cube) _ c.requires.letter (power c.in_ok-x.x) c.in_ok-x.ensures.1
    _ c.quotient-by_letter.ensures (power c.common_cube-c.result) c.common_cube-c.ensures
    (power c.in_ok-multiply.field-0) c.in_ok-multiply.ensures.0
    (power c.in_ok-cube.cube) c.in_ok-cube.ensures.0 _ c.quotient-rest.ensures
    (c.if-has_before.ensures.no refl) (c.if-not-has_pair.ensures.yes refl)
