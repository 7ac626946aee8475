use Rattle.rewriting.proofs.Takings.{taking_fits}
use Rattle.rewriting.proofs.factor.taking_fits.Goals as goal

pub returns : goal.returns
returns c = taking_fits
