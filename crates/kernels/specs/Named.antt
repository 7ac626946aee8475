-- Kernels, as the rules of rewriting have them.
use Rattle.std.specs.Prelude.{List, map}
use Rattle.cubes.specs.Powers.{power}
use Rattle.kernels.specs.declared.kernel.Kernel.{Kernel}
use Rattle.rewriting.specs.Taking.{Kernel as Named}

-- a kernel by its name: its expression and the powers of its co-kernel
abbrev pub as_kernel : Kernel → Named
as_kernel x = record { expression = x.expression; co_kernel = power x.cokernel }

abbrev pub as_kernels : List Kernel → List Named
as_kernels xs = map as_kernel xs
