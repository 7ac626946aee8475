use Rattle.std.proofs.Common.{rules}
use Rattle.cubes.proofs.Orders.{differ}
use Rattle.cubes.proofs.cube.Cube.same.Goals as goal

pub returns-clause-no : goal.returns-clause-no
returns-clause-no c = search (rules, differ)
