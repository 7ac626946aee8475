use Rattle.std.proofs.Common.{◌≤◌, sym, subst, ap, ◌∙◌, arith}
use Rattle.std.proofs.lemmas.List.{get_or-replicate}
use Rattle.algebra.specs.Cubes.{letters}
use Rattle.cubes.specs.Powers.{power}
use Rattle.cubes.specs.declared.cube.Cube.{Cube}
use Rattle.kernels.proofs.Lows.{Low, low_begin, low_some, low_none, low_all}
use Rattle.kernels.proofs.rest.Rest.common_cube.Goals as goal
use Rattle.kernels.proofs.rest.Rest.common_cube.Goals.{in-Some, in_default}

pub loop-slot-init : goal.loop-slot-init
loop-slot-init c = λ j h. subst (Low c.args.self.now j 0) (sym (get_or-replicate letters j 255 0 h)) (low_begin c.args.self.now j)

pub loop-slot-preserved : goal.loop-slot-preserved
loop-slot-preserved c = λ j h.
    elim c.match-slot.branch [
      | in-Some w ↦
          let fits : power w.in-Some.cube j ≤ 255 = omega (arith, w.common-common.ensures.bytes j h) in
          low_some c.args.self.now j c.loop-slot.slot-index (power c.loop-slot.common j) (power c.match-slot.common j) w.in-Some.cube
          c.loop-slot-test.true w.in-Some.is (c.loop-slot.invariant j h)
          (ap (λ (x : Cube). power x j) w.common-is ∙ w.common-common.ensures.is j h) fits
      | in_default w ↦
          low_none c.args.self.now j c.loop-slot.slot-index (power c.loop-slot.common j) (power c.match-slot.common j)
          w.in_default.is (c.loop-slot.invariant j h) (ap (λ (x : Cube). power x j) w.common-is)
    ]

pub returns : goal.returns
returns c = λ j h. low_all c.args.self.now j c.loop-slot.slot-index (power c.loop-slot.common j) (omega arith) (c.loop-slot.invariant j h) (c.requires.0, c.requires.3)
