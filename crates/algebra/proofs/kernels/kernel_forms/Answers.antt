use Rattle.algebra.proofs.Forms.{kernel_forms}
use Rattle.algebra.proofs.kernels.kernel_forms.Goals as goal

pub returns : goal.returns
returns c = kernel_forms
