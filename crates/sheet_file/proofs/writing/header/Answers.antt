use Rattle.std.proofs.Common.{◌≡◌, ℕ, ◌/◌, ◌%◌, ◌<◌, [], ◌∷◌, get_or, ◌∙◌, arith}
use Rattle.std.specs.Int.{w16, to_le_bytes}
use Rattle.sheet_file.specs.Bytes.{word_bytes}
use Rattle.sheet_file.proofs.writing.header.Goals as goal

-- the two bytes of a number of 16 bits
two_bytes : (n : ℕ) → n < 65536 → to_le_bytes w16 n ≡ word_bytes n
two_bytes n small =
    let high : n / 256 % 256 ≡ n / 256 = omega arith in
    λ i. n % 256 ∷ high i ∷ []

pub returns : goal.returns
returns c =
    let held = c.requires.held in
    let used = c.requires.used in
    let a = c.to_le_bytes.ensures ∙ two_bytes _ (omega arith) in
    let b = c.to_le_bytes-2.ensures ∙ two_bytes _ (omega arith) in
    let d = c.to_le_bytes-3.ensures ∙ two_bytes _ (omega arith) in
    let e = c.to_le_bytes-4.ensures ∙ two_bytes _ (omega arith) in
    λ i. 3 ∷ 13 ∷ 0 ∷ get_or (a i) 0 0 ∷ get_or (a i) 1 0 ∷ get_or (b i) 0 0 ∷ get_or (b i) 1 0 ∷ get_or (d i) 0 0 ∷ get_or (d i) 1 0 ∷ get_or (e i) 0 0 ∷ get_or (e i) 1 0 ∷ 32 ∷ 0 ∷ []
