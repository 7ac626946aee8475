use Rattle.std.proofs.Common.{◌<◌, length, sym, refl, rules}
use Rattle.cubes.specs.Powers.{power}
use Rattle.cubes.proofs.Tests.{test_yes, test_no}
use Rattle.cubes.proofs.Shared.{gained, stayed}
use Rattle.cubes.proofs.expression.changes.divide.Goals as goal

pub returns-in-Some : goal.returns-in-Some
returns-in-Some c =
    let d = c.in-Some.ensures in
    let lt : c.args.letter < length c.in-Some.rest.powers = search rules in
    record {
      row = record { sign = refl; cubes = gained c.args.letter (power c.args.cube) (power c.args.row.now.cube) c.in-Some.rest.powers lt c.requires.fresh d };
      told = sym (test_yes (power c.args.cube) (power c.args.row.now.cube) d.divides);
    }

pub returns-in-None : goal.returns-in-None
returns-in-None c =
    let m = c.in-None.ensures in
    record {
      row = record { sign = refl; cubes = stayed c.args.letter (power c.args.cube) (power c.args.row.now.cube) m };
      told = sym (test_no (power c.args.cube) (power c.args.row.now.cube) m);
    }
