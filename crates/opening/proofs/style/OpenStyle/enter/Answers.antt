use Rattle.std.proofs.Common.{◌≡◌, not, ℤ, refl, ap, ◌∙◌, subst, arith, w64}
use lib.Signed.{non_neg}
use Rattle.std.proofs.lemmas.Result.{err_from_is_err_and}
use Rattle.std.proofs.lemmas.Int.{to_z-of_z}
use Rattle.rewriting.specs.Book.{accepted, place}
use Rattle.sheet.specs.Numerals.{numerals_list}
use Rattle.opening.specs.Checks.{AlwaysRefused, Passes}
use Rattle.opening.specs.Holding.{term_of}
use Rattle.sheet.proofs.Rules.{few_numerals}
use Rattle.opening.proofs.Numerals.{place_within}
use Rattle.opening.proofs.Outcomes.{lacking, noted_next, refused, taken}
use Rattle.opening.proofs.style.OpenStyle.enter.Goals as goal

pub returns-in_err-magnitude : goal.returns-in_err-magnitude
returns-in_err-magnitude c =
    let p = err_from_is_err_and c.from_residual.result c.from_residual.ensures.1 in
    let why = c.in_err-magnitude.field-0.0 in
    let always = subst (λ (z : ℤ). AlwaysRefused why (term_of c.args.formula z c.args.powers.now))
    (to_z-of_z w64 c.args.coefficient c.ranges.coefficient) c.in_err-magnitude.ensures in
    refused c.args.self.now (term_of c.args.formula c.args.coefficient c.args.powers.now) c.from_residual.result why (cc) (λ offered _. always (accepted offered))

pub cube_of-cube-requires : goal.cube_of-cube-requires
cube_of-cube-requires c =
    let held = c.args.self.now.table.numerals in
    let m = c.in_ok-magnitude.magnitude in
    let at : c.place_of-place.result ≡ place (numerals_list held) m = cc in
    omega (arith, at, place_within (numerals_list held) m, few_numerals held)

pub returns-in_err-check_room : goal.returns-in_err-check_room
returns-in_err-check_room c =
    let m = c.in_ok-magnitude.magnitude in
    let ps = c.in_ok-magnitude.powers.each in
    let passed = subst (λ (z : ℤ). Passes (term_of c.args.formula z c.args.powers.now) m ps) (to_z-of_z w64 c.args.coefficient c.ranges.coefficient) c.in_ok-magnitude.ensures in
    let p = err_from_is_err_and c.from_residual-in_err-check_room.result c.from_residual-in_err-check_room.ensures.1 in
    lacking c.args.self.now (term_of c.args.formula c.args.coefficient c.args.powers.now) m c.place_of-place.result ps passed (cc)
    c.cube_of-cube.result c.cube_of-cube.ensures c.from_residual-in_err-check_room.result c.in_err-check_room.field-0.0 (cc) c.in_err-check_room.ensures

pub invariant_of-self : goal.invariant_of-self
invariant_of-self c =
    let m = c.in_ok-magnitude.magnitude in
    let ps = c.in_ok-magnitude.powers.each in
    let z = to_z-of_z w64 c.args.coefficient c.ranges.coefficient in
    let passed = subst (λ (n : ℤ). Passes (term_of c.args.formula n c.args.powers.now) m ps) z c.in_ok-magnitude.ensures in record {
      noted = noted_next c.args.self.now (term_of c.args.formula c.args.coefficient c.args.powers.now) m c.place_of-place.result ps passed (cc)
          c.cube_of-cube.result c.cube_of-cube.ensures c.in_ok-check_room.ensures c.sign_of.result (c.sign_of.ensures ∙ ap (λ (n : ℤ). not (non_neg n)) z)
          c.add_row.new.table c.hold_numeral.new.table c.add_row.ensures c.hold_numeral.ensures;
    }

pub returns : goal.returns
returns c =
    let m = c.in_ok-magnitude.magnitude in
    let ps = c.in_ok-magnitude.powers.each in
    let z = to_z-of_z w64 c.args.coefficient c.ranges.coefficient in
    let passed = subst (λ (n : ℤ). Passes (term_of c.args.formula n c.args.powers.now) m ps) z c.in_ok-magnitude.ensures in
    taken c.args.self.now (term_of c.args.formula c.args.coefficient c.args.powers.now) m c.place_of-place.result ps passed (cc)
    c.cube_of-cube.result c.cube_of-cube.ensures c.in_ok-check_room.ensures c.sign_of.result (c.sign_of.ensures ∙ ap (λ (n : ℤ). not (non_neg n)) z)
    c.add_row.new.table c.hold_numeral.new.table c.add_row.ensures c.hold_numeral.ensures _ refl refl
