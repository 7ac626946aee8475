use Rattle.std.proofs.Common.{◌≡◌, ◌<◌, ◌++◌, length, refl, ap, ◌∙◌, arith, rules}
use Rattle.std.specs.List.{flat_map}
use Rattle.sheet.specs.Parts.{sheet_numerals, sheet_steps, sheet_outputs}
use Rattle.sheet_file.specs.Bytes.{word_bytes, step_bytes, output_bytes}
use Rattle.sheet_file.specs.File.{file_bytes, sheet_bytes}
use Rattle.sheet_file.proofs.Put.{puts_then, puts_same}
use Rattle.sheet_file.proofs.Rows.{length_row}
use Rattle.sheet_file.proofs.Files.{length_file}
use Rattle.sheet_file.proofs.writing.write.Goals as goal

pub returns-then-out-numerals-clause-written : goal.returns-then-out-numerals-clause-written
returns-then-out-numerals-clause-written c =
    let sheet = c.args.sheet.now in
    let ns = ap length c.numerals-numerals.ensures in
    let ss = ap length c.steps-steps.ensures.value in
    let long = length_file (sheet_numerals sheet) (sheet_steps sheet) (sheet_outputs sheet) in
    let sixteen = c.steps-steps.ensures.lawful.sixteen in
    let short : length c.args.out.now < length (sheet_bytes sheet) = omega arith in
    (short, refl)

pub put_all-requires-clause-room : goal.put_all-requires-clause-room
put_all-requires-clause-room c =
    let header : length c.header.result ≡ 13 = ap length c.header.ensures in
    let numerals = length_row word_bytes 2 (λ x. refl) c.numerals-numerals.result.now in
    let place = c.put.ensures.puts.place in
    let long = c.put.ensures.long in
    omega arith

pub put_all-requires-2-clause-room : goal.put_all-requires-2-clause-room
put_all-requires-2-clause-room c =
    let header : length c.header.result ≡ 13 = ap length c.header.ensures in
    let numerals = length_row word_bytes 2 (λ x. refl) c.numerals-numerals.result.now in
    let steps = length_row step_bytes 5 (λ x. refl) c.steps-steps.result.now in
    let place = c.put.ensures.puts.place in
    let place_2 = c.put_all.ensures.puts.place in
    let long = c.put.ensures.long in
    let long_2 = c.put_all.ensures.long in
    omega arith

pub put_all-requires-3-clause-room : goal.put_all-requires-3-clause-room
put_all-requires-3-clause-room c =
    let header : length c.header.result ≡ 13 = ap length c.header.ensures in
    let numerals = length_row word_bytes 2 (λ x. refl) c.numerals-numerals.result.now in
    let steps = length_row step_bytes 5 (λ x. refl) c.steps-steps.result.now in
    let outputs = length_row output_bytes 2 (λ x. refl) c.outputs-outputs.result.now in
    let sixteen = ap length c.outputs-outputs.ensures ∙ c.steps-steps.ensures.lawful.sixteen in
    let place = c.put.ensures.puts.place in
    let place_2 = c.put_all.ensures.puts.place in
    let place_3 = c.put_all-2.ensures.puts.place in
    let long = c.put.ensures.long in
    let long_2 = c.put_all.ensures.long in
    let long_3 = c.put_all-2.ensures.long in
    omega arith

pub returns-clause-written : goal.returns-clause-written
returns-clause-written c =
    let ns = c.numerals-numerals.result.now in
    let ss = c.steps-steps.result.now in
    let os = c.outputs-outputs.result.now in
    let sections = flat_map word_bytes ns ++ (flat_map step_bytes ss ++ flat_map output_bytes os) in
    let whole : c.header.result ++ sections ≡ sheet_bytes c.args.sheet.now = (λ i. c.header.ensures i ++ sections) ∙ (λ i. file_bytes (c.numerals-numerals.ensures i) (c.steps-steps.ensures.value i) (c.outputs-outputs.ensures i)) in
    let written = puts_same _ _ whole
    (puts_then c.put.ensures.puts (puts_then c.put_all.ensures.puts (puts_then c.put_all-2.ensures.puts c.put_all-3.ensures.puts))) in
    search rules
