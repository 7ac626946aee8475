use Rattle.std.proofs.Common.{rules}
use Rattle.cubes.proofs.Orders.{compared}
use Rattle.cubes.proofs.cube.Cube.compare.Goals as goal

pub returns : goal.returns
returns c = compared c.args.self.powers c.args.other.powers c.cmp.result (search rules) (search rules) c.cmp.ensures
