use Rattle.std.proofs.Common.{◌≡◌, ℕ, ◌+◌, ◌-◌, ◌*◌, ◌<◌, true, List, ◌++◌, length, get_or, take, drop, refl, ap, ◌∙◌, sym, subst, arith}
use Rattle.std.proofs.lemmas.List.{length-take-le, get_or-take, length-drop, length-set}
use Rattle.sheet.specs.declared.operand.Operand.TheVariants.{Zero}
use Rattle.sheet.specs.Legal.{legal_operand}
use Rattle.sheet_file.specs.Bytes.{output_bytes}
use Rattle.sheet_file.specs.Reading.{OutputEntry, FirstBad}
use Rattle.sheet_file.proofs.Rows.{bad_behind, row_more_set, below_set, two_at}
use Rattle.sheet_file.proofs.sections.read_outputs.Goals as goal

pub returns-in_default : goal.returns-in_default
returns-in_default c =
    let k = c.loop-k.k in
    let outputs = c.loop-k.outputs in
    let section = c.args.section.bytes.now in
    let left = drop (2 * k) section in
    let held = c.args.layout.held in
    let used = c.args.layout.used in
    let at = two_at section c.as_chunks.result.0.now k c.as_chunks.ensures.front c.as_chunks.ensures.front_len c.loop-k-test.true in
    let under = c.loop-k-test.true in
    let count = c.as_chunks.ensures.front_len in
    let long = length-drop (2 * k) section in
    let sixteen = c.loop-k.invariant.2 in
    let all = c.requires in
    let many : length (take k outputs) ≡ k = length-take-le k outputs (omega arith) in
    let place : length section - length left ≡ 2 * k = omega arith in
    let first = bad_behind output_bytes 2 (λ o. refl) (OutputEntry held used) (take k outputs) left section c.loop-k.invariant.0 (omega arith)
    (λ j d h. (let l : j < k = omega arith in (get_or (take k outputs) j d, ap (legal_operand held used) (get_or-take k outputs j d l) ∙ c.loop-k.invariant.1 j d l, refl))) Zero
    (λ good. c.in_default.ensures (subst (OutputEntry held used 0) (sym at.0) good)) in
    record { reason = refl; at = 2 * k; place = refl; first = subst (λ (n : ℕ). FirstBad 2 (OutputEntry held used) section n) place first }

pub loop-k-preserved : goal.loop-k-preserved
loop-k-preserved c =
    let k = c.loop-k.k in
    let outputs = c.loop-k.outputs in
    let section = c.args.section.bytes.now in
    let rest = drop (2 * (k + 1)) section in
    let at = two_at section c.as_chunks.result.0.now k c.as_chunks.ensures.front c.as_chunks.ensures.front_len c.loop-k-test.true in
    let under = c.loop-k-test.true in
    let count = c.as_chunks.ensures.front_len in
    let sixteen = c.loop-k.invariant.2 in
    let all = c.requires in
    let within : k < length outputs = omega arith in
    let e = c.in-Some.ensures in (
      row_more_set output_bytes k outputs c.in-Some.operand (drop (2 * k) section) rest section within c.loop-k.invariant.0 (at.1 ∙ ap (λ (bs : List ℕ). bs ++ rest) (sym e.1)),
      below_set (λ j x. legal_operand c.args.layout.held c.args.layout.used x ≡ true) outputs k c.in-Some.operand within c.loop-k.invariant.1 e.0,
      length-set outputs k c.in-Some.operand ∙ sixteen,
    )
