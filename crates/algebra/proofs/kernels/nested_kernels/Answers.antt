use Rattle.algebra.proofs.Nested.{nested_kernels, quotient_made}
use Rattle.algebra.proofs.kernels.nested_kernels.Goals as goal

pub returns : goal.returns
returns c = record { nested = nested_kernels; made = quotient_made }
