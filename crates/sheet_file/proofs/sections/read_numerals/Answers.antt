use Rattle.std.proofs.Common.{◌≡◌, ℕ, ◌+◌, ◌-◌, ◌*◌, ◌<◌, List, [], ◌++◌, length, get_or, drop, refl, ap, ◌∙◌, sym, subst, arith, rules}
use Rattle.std.specs.List.{flat_map}
use Rattle.std.proofs.lemmas.List.{length-append, length-drop, length-take-le}
use Rattle.sheet.specs.Numerals.{numerals_list}
use Rattle.sheet.proofs.Rules.{numerals_large}
use Rattle.sheet_file.specs.Bytes.{word_bytes}
use Rattle.sheet_file.specs.Reading.{NumeralEntry, FirstBad}
use Rattle.sheet_file.proofs.Rows.{bad_behind, length_row, push_refused, no_numeral, row_more, two_at, word_back}
use Rattle.sheet_file.proofs.sections.read_numerals.Goals as goal

-- how long the row so far is
long_row : (xs left section : List ℕ) → flat_map word_bytes xs ++ left ≡ section → 2 * length xs + length left ≡ length section
long_row xs left section whole =
    let a = length-append (flat_map word_bytes xs) left in
    let b = length_row word_bytes 2 (λ n. refl) xs in
    let e = ap length whole in
    omega arith

pub returns-in-Err : goal.returns-in-Err
returns-in-Err c =
    let ns = numerals_list c.loop-k.numerals in
    let section = c.args.section.bytes.now in
    let k = c.loop-k.k in
    let left = drop (2 * k) section in
    let n = c.from_le_bytes.result in
    let bytes = get_or c.as_chunks.result.0.now k [] in
    let at = two_at section c.as_chunks.result.0.now k c.as_chunks.ensures.front c.as_chunks.ensures.front_len c.loop-k-test.true in
    let e = long_row ns left section c.loop-k.invariant in
    let long = length-drop (2 * k) section in
    let under = c.loop-k-test.true in
    let many = c.as_chunks.ensures.front_len in
    let few = c.requires.few in
    let free : length ns < 8 = omega arith in
    let small : n < 2 = push_refused (length ns) n _ c.in-Err.ensures.answer free in
    let q : n ≡ get_or bytes 0 0 + 256 * get_or bytes 1 0 = omega (arith, c.from_le_bytes.ensures) in
    let place : length section - length left ≡ 2 * k = omega arith in
    let first = bad_behind word_bytes 2 (λ m. refl) NumeralEntry ns left section c.loop-k.invariant (omega arith)
    (λ j d h. (get_or ns j d, numerals_large c.loop-k.numerals j d h, refl)) 0
    (λ good. no_numeral bytes n q small (subst (NumeralEntry 0) (sym at.0) good)) in
    record { reason = refl; at = 2 * k; place = refl; first = subst (λ (m : ℕ). FirstBad 2 NumeralEntry section m) place first }

pub loop-k-preserved : goal.loop-k-preserved
loop-k-preserved c =
    let ns = numerals_list c.loop-k.numerals in
    let section = c.args.section.bytes.now in
    let k = c.loop-k.k in
    let n = c.from_le_bytes.result in
    let bytes = get_or c.as_chunks.result.0.now k [] in
    let rest = drop (2 * (k + 1)) section in
    let at = two_at section c.as_chunks.result.0.now k c.as_chunks.ensures.front c.as_chunks.ensures.front_len c.loop-k-test.true in
    let left = drop (2 * k) section in
    let long = length-drop (2 * k) section in
    let under = c.loop-k-test.true in
    let many = c.as_chunks.ensures.front_len in
    let two : length bytes ≡ 2 = ap length at.0 ∙ length-take-le 2 left (omega arith) in
    let low : get_or bytes 0 0 < 256 = search rules in
    let same : bytes ≡ word_bytes n = word_back bytes n two low c.from_le_bytes.ensures in
    ap (λ (xs : List ℕ). flat_map word_bytes xs ++ rest) c.in_default.ensures.held ∙ row_more word_bytes ns n (drop (2 * k) section) rest section c.loop-k.invariant (at.1 ∙ ap (λ (bs : List ℕ). bs ++ rest) same)
