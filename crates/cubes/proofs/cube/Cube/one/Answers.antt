use Rattle.std.proofs.lemmas.List.{get_or-replicate}
use Rattle.algebra.specs.Cubes.{letters}
use Rattle.cubes.proofs.cube.Cube.one.Goals as goal

pub returns : goal.returns
returns c l h = get_or-replicate letters l 0 0 h
