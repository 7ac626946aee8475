use Rattle.std.proofs.Common.{◌≡◌, drop, vec_items}
use Rattle.cubes.specs.Rows.{as_rows}
use Rattle.few.specs.Listed.{listed}
use Rattle.rewriting.specs.Taking.{taken_after, taken_by}
use Rattle.table.specs.Of.{style_of}
use Rattle.kernels.specs.Named.{as_kernels}
use Rattle.factoring.specs.Takens.{as_takens}
use Rattle.factoring.proofs.taking.take_all.Given as goal

abbrev pub invariant-loop-kernel : goal.invariant-loop-kernel
invariant-loop-kernel l =
    taken_after (style_of l.table) (as_rows (listed l.columns)) (as_takens (vec_items l.taken)) (as_kernels (drop l.kernel-index l.kernels))
    ≡ taken_by (style_of l.table) (as_rows (listed l.columns)) (as_kernels l.kernels)
