use Rattle.std.proofs.Common.{◌≡◌, ℕ, ◌+◌, ◌<◌, List, [], ◌∷◌, ◌++◌, length, drop, sym, ap, ◌∙◌, arith, rules, tests}
use Rattle.std.proofs.lemmas.List.{append-nil, at_drop_all, length_push}
use Rattle.cubes.specs.Powers.{power}
use Rattle.cubes.specs.Rows.{as_rows}
use Rattle.cubes.specs.declared.row.Row.{Row}
use Rattle.rewriting.specs.Factor.{covered, taken_in}
use Rattle.rewriting.specs.Taking.{spots}
use Rattle.factoring.specs.Takens.{all_open, as_takens}
use Rattle.few.specs.Listed.{listed}
use Rattle.factoring.proofs.Looks.{open_more, open_less, spots_more}
use Rattle.factoring.proofs.taking.places_behind.Goals as goal

pub returns-in_err-k : goal.returns-in_err-k
returns-in_err-k c =
    let rs = as_rows c.args.rows.now in
    let a = power c.args.kernel.cokernel in
    let gone = covered (taken_in c.args.kernel.expression (as_takens c.args.taken.now)) in
    rw c.from_residual.ensures (sym (ap (λ (ys : List Row). all_open rs a gone (as_rows ys)) c.as_slice-column-items.ensures.is) ∙ sym c.loop-column.invariant.0
    ∙ open_less rs a gone c.as_slice-column-items.result.now c.loop-column.column-index c.loop-column-test.true c.in_err-k.ensures)

pub unwrap-requires : goal.unwrap-requires
unwrap-requires c =
    let few : length (listed c.loop-column.places) < 8 = omega (arith, c.loop-column.invariant.2, c.loop-column-test.true, c.as_slice-column-items.ensures.few) in
    search (rules, tests, few)

pub loop-column-preserved : goal.loop-column-preserved
loop-column-preserved c =
    let rs = as_rows c.args.rows.now in
    let a = power c.args.kernel.cokernel in
    let gone = covered (taken_in c.args.kernel.expression (as_takens c.args.taken.now)) in
    let xs = c.as_slice-column-items.result.now in
    let i = c.loop-column.column-index in
    let h = c.loop-column-test.true in
    let o = c.in_ok-k.ensures in
    let p : listed c.push.new.self ≡ listed c.loop-column.places ++ c.in_ok-k.k ∷ [] = search (rules, tests, c.push.ensures, c.unwrap.ensures) in (
      open_more rs a gone xs i h o.0 ∙ c.loop-column.invariant.0,
      ap (λ (ps : List ℕ). ps ++ spots rs a (as_rows (drop (i + 1) xs))) p ∙ spots_more rs a gone xs i h (listed c.loop-column.places) c.in_ok-k.k o.1 ∙ c.loop-column.invariant.1,
      ap length p ∙ omega (arith, length_push (listed c.loop-column.places) c.in_ok-k.k, c.loop-column.invariant.2),
    )

pub returns : goal.returns
returns c =
    let rs = as_rows c.args.rows.now in
    let a = power c.args.kernel.cokernel in
    let gone = covered (taken_in c.args.kernel.expression (as_takens c.args.taken.now)) in
    let xs = c.as_slice-column-items.result.now in
    let h = c.loop-column-test.false in
    let are = c.as_slice-column-items.ensures.is in (
      sym (ap (λ (ys : List Row). all_open rs a gone (as_rows ys)) are)
          ∙ sym c.loop-column.invariant.0 ∙ at_drop_all (λ (ys : List Row). all_open rs a gone (as_rows ys)) xs c.loop-column.column-index h,
      sym (append-nil (listed c.loop-column.places))
          ∙ sym (ap (λ (ps : List ℕ). listed c.loop-column.places ++ ps) (at_drop_all (λ (ys : List Row). spots rs a (as_rows ys)) xs c.loop-column.column-index h)) ∙ c.loop-column.invariant.1
          ∙ ap (λ (ys : List Row). spots rs a (as_rows ys)) are,
    )
