use Rattle.algebra.proofs.Small.{kernel_figures}
use Rattle.algebra.proofs.kernels.kernel_figures.Goals as goal

pub returns : goal.returns
returns c = kernel_figures
