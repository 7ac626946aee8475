use Rattle.std.proofs.Common.{List, vec_items, sym, ◌∙◌}
use Rattle.std.proofs.lemmas.List.{at_drop_all}
use Rattle.cubes.specs.Rows.{as_rows}
use Rattle.few.specs.Listed.{listed}
use Rattle.rewriting.specs.Taking.{taken_after}
use Rattle.table.specs.Of.{style_of}
use Rattle.kernels.specs.declared.kernel.Kernel.{Kernel}
use Rattle.kernels.specs.Named.{as_kernels}
use Rattle.factoring.specs.Takens.{as_takens}
use Rattle.factoring.proofs.Looks.{taken_more}
use Rattle.factoring.proofs.taking.take_all.Goals as goal

pub loop-kernel-preserved : goal.loop-kernel-preserved
loop-kernel-preserved c = let a = c.in_ok-look.ensures in
    taken_more (style_of c.args.table.now) (as_rows (listed c.args.columns.now)) c.args.kernels.now c.loop-kernel.kernel-index (as_takens (vec_items c.loop-kernel.taken)) _ c.loop-kernel-test.true
    c.in_ok-look.ensures ∙ c.loop-kernel.invariant

pub returns : goal.returns
returns c =
    sym (at_drop_all (λ (zs : List Kernel). taken_after (style_of c.args.table.now) (as_rows (listed c.args.columns.now)) (as_takens (vec_items c.loop-kernel.taken)) (as_kernels zs))
    c.args.kernels.now c.loop-kernel.kernel-index c.loop-kernel-test.false) ∙ c.loop-kernel.invariant
