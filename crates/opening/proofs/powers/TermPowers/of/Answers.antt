use Rattle.std.proofs.Common.{arith}
use Rattle.std.proofs.lemmas.Grind.{common_steps}
use Rattle.opening.proofs.TermCubes.{power_within}
use Rattle.opening.proofs.powers.TermPowers.of.Goals as goal

pub map_or-requires : goal.map_or-requires
map_or-requires c = λ x e w v f. let p = power_within c.args.self.now.each c.args.letter in grind (arith, common_steps)
