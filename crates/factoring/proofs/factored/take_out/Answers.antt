use Rattle.std.proofs.Common.{◌≡◌, ◌<◌, List, length, get_or, vec_items, sym, ap, ◌∙◌, subst, arith, rules}
use Rattle.std.proofs.lemmas.List.{length-map}
use Rattle.cubes.specs.Rows.{as_row, as_rows}
use Rattle.few.specs.Listed.{listed}
use Rattle.kernels.specs.Kernels.{no_kernel}
use Rattle.table.proofs.Looks.{few_rows}
use Rattle.factoring.specs.Factoring.{Factors, Unfactored}
use Rattle.factoring.specs.Takens.{as_taken, as_takens}
use Rattle.factoring.specs.declared.taken.TakenKernel.{TakenKernel}
use Rattle.factoring.proofs.Wholes.{set_alike, takes_out, untaken}
use Rattle.factoring.proofs.factored.take_out.Goals as goal

pub named_columns-columns-requires : goal.named_columns-columns-requires
named_columns-columns-requires c = omega (arith, ap length c.rows.ensures, few_rows c.args.table.now c.in-Some.kernel.now.expression)

pub returns-in_default-2 : goal.returns-in_default-2
returns-in_default-2 c =
    let t = c.args.table.now in
    let ks = c.args.kernels.now in
    let xs = listed c.named_columns-columns.result in
    let ts = vec_items c.in_ok-taken.taken in
    let h : c.args.place < length ks = search rules in
    let is : c.in-Some.kernel.now ≡ get_or ks c.args.place no_kernel = search rules in
    let a = set_alike t ks c.args.place c.args.set h c.in-Some.kernel.now is xs c.rows.result.now c.rows.ensures c.named_columns-columns.ensures in
    let k : Unfactored t (as_rows xs) (as_takens c.as_slice.result.now) = search rules in
    untaken t ks c.args.place c.args.set h (as_rows xs) (as_takens ts) a c.in_ok-taken.ensures
    (subst (λ (us : List TakenKernel). Unfactored t (as_rows xs) (as_takens us)) c.as_slice.ensures.value k)

pub returns : goal.returns
returns c =
    let t = c.args.table.now in
    let ks = c.args.kernels.now in
    let xs = listed c.named_columns-columns.result in
    let ts = vec_items c.in_ok-taken.taken in
    let h : c.args.place < length ks = search rules in
    let is : c.in-Some.kernel.now ≡ get_or ks c.args.place no_kernel = search rules in
    let a = set_alike t ks c.args.place c.args.set h c.in-Some.kernel.now is xs c.rows.result.now c.rows.ensures c.named_columns-columns.ensures in
    let k : Factors t (as_rows xs) (as_takens c.as_slice.result.now) c.in-Some-2.next = search rules in
    takes_out t ks c.args.place c.args.set h (as_rows xs) (as_takens ts) a c.in_ok-taken.ensures _
    (subst (λ (us : List TakenKernel). Factors t (as_rows xs) (as_takens us) c.in-Some-2.next) c.as_slice.ensures.value k)
    (c.len.ensures ∙ sym (length-map ts as_taken ∙ ap length (sym c.as_slice.ensures.value) ∙ c.as_slice.ensures.len))
    (c.len-2.ensures.is ∙ sym (length-map xs as_row))
