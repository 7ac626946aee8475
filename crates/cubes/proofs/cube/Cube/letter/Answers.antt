use Rattle.cubes.proofs.Letters.{letter_powers}
use Rattle.cubes.proofs.cube.Cube.letter.Goals as goal

pub returns : goal.returns
returns c = let lt = c.if-j-ge-LETTERS.false in (lt, λ l h. letter_powers c.args.j l lt h)
