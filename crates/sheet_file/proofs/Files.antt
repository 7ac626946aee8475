-- A file's header and its sections.
use Rattle.std.proofs.Common.{◌≡◌, ℕ, ◌+◌, ◌-◌, ◌*◌, ◌/◌, ◌%◌, ◌<◌, ◌≤◌, List, [], ◌∷◌, ◌++◌, length, get_or, take, drop, sym, refl, ap, ◌∙◌, arith}
use Rattle.std.specs.List.{between, flat_map}
use Rattle.std.proofs.lemmas.List.{length-append, length-drop, length-take-le, take_all, take_at, drop_at, drop-drop, take-append-drop}
use Rattle.sheet.specs.declared.operand.Operand.{Operand}
use Rattle.sheet.specs.declared.step.Step.{Step}
use Rattle.sheet.specs.Parts.{Lawful}
use Rattle.sheet_file.specs.Bytes.{word_bytes, step_bytes, output_bytes}
use Rattle.sheet_file.specs.File.{steps_start, outputs_start, file_length, header_bytes, file_bytes}
use Rattle.sheet_file.specs.Reading.{word_at, LaidOut, numerals_part, steps_part, outputs_part}
use Rattle.sheet_file.proofs.Rows.{length_row}

-- how long the sections and the file are
pub length_file : (ns : List ℕ) (ss : List Step) (os : List Operand) → length (file_bytes ns ss os) ≡ 13 + 2 * length ns + 5 * length ss + 2 * length os
length_file ns ss os =
    let N = flat_map word_bytes ns in
    let S = flat_map step_bytes ss in
    let O = flat_map output_bytes os in
    let n = length_row word_bytes 2 (λ x. refl) ns in
    let s = length_row step_bytes 5 (λ x. refl) ss in
    let o = length_row output_bytes 2 (λ x. refl) os in
    let a = length-append S O in
    let b = length-append N (S ++ O) in
    let whole : length (file_bytes ns ss os) ≡ 13 + length (N ++ (S ++ O)) = omega arith in
    omega arith

-- the sections, where they are cut out of a file of h numerals and u steps
module _ (ns : List ℕ) (ss : List Step) (os : List Operand) where
  abbrev N : List ℕ
  N = flat_map word_bytes ns

  abbrev S : List ℕ
  S = flat_map step_bytes ss

  abbrev O : List ℕ
  O = flat_map output_bytes os

  pub numerals_cut : numerals_part (file_bytes ns ss os) (length ns) ≡ N
  numerals_cut = take_at N (S ++ O) _ (length_row word_bytes 2 (λ x. refl) ns ∙ omega arith)

  at_steps : drop (steps_start (length ns)) (file_bytes ns ss os) ≡ S ++ O
  at_steps = sym (drop-drop (2 * length ns) 13 (file_bytes ns ss os)) ∙ drop_at N (S ++ O) (2 * length ns) (length_row word_bytes 2 (λ x. refl) ns)

  pub steps_cut : steps_part (file_bytes ns ss os) (length ns) (length ss) ≡ S
  steps_cut = ap (take (outputs_start (length ns) (length ss) - steps_start (length ns))) at_steps ∙ take_at S O _ (length_row step_bytes 5 (λ x. refl) ss ∙ omega arith)

  pub outputs_cut : length os ≡ 16 → outputs_part (file_bytes ns ss os) (length ns) (length ss) ≡ O
  outputs_cut sixteen =
      let start = outputs_start (length ns) (length ss) in
      let here : drop start (file_bytes ns ss os) ≡ O = sym (drop-drop (5 * length ss) (steps_start (length ns)) (file_bytes ns ss os)) ∙ ap (drop (5 * length ss)) at_steps ∙ drop_at S O (5 * length ss) (length_row step_bytes 5 (λ x. refl) ss) in
      let long : length O ≡ 2 * length os = length_row output_bytes 2 (λ x. refl) os in
      ap (take (file_length (length ns) (length ss) - start)) here ∙ take_all (file_length (length ns) (length ss) - start) O (omega arith)

-- the first thirteen bytes
thirteen : (xs : List ℕ) → 13 ≤ length xs → take 13 xs ≡ get_or xs 0 0 ∷ get_or xs 1 0 ∷ get_or xs 2 0 ∷ get_or xs 3 0 ∷ get_or xs 4 0 ∷ get_or xs 5 0 ∷ get_or xs 6 0 ∷ get_or xs 7 0 ∷ get_or xs 8 0 ∷ get_or xs 9 0 ∷ get_or xs 10 0 ∷ get_or xs 11 0 ∷ get_or xs 12 0 ∷ []
thirteen [] h = absurd (omega arith)
thirteen (a0 ∷ []) h = absurd (omega arith)
thirteen (a0 ∷ a1 ∷ []) h = absurd (omega arith)
thirteen (a0 ∷ a1 ∷ a2 ∷ []) h = absurd (omega arith)
thirteen (a0 ∷ a1 ∷ a2 ∷ a3 ∷ []) h = absurd (omega arith)
thirteen (a0 ∷ a1 ∷ a2 ∷ a3 ∷ a4 ∷ []) h = absurd (omega arith)
thirteen (a0 ∷ a1 ∷ a2 ∷ a3 ∷ a4 ∷ a5 ∷ []) h = absurd (omega arith)
thirteen (a0 ∷ a1 ∷ a2 ∷ a3 ∷ a4 ∷ a5 ∷ a6 ∷ []) h = absurd (omega arith)
thirteen (a0 ∷ a1 ∷ a2 ∷ a3 ∷ a4 ∷ a5 ∷ a6 ∷ a7 ∷ []) h = absurd (omega arith)
thirteen (a0 ∷ a1 ∷ a2 ∷ a3 ∷ a4 ∷ a5 ∷ a6 ∷ a7 ∷ a8 ∷ []) h = absurd (omega arith)
thirteen (a0 ∷ a1 ∷ a2 ∷ a3 ∷ a4 ∷ a5 ∷ a6 ∷ a7 ∷ a8 ∷ a9 ∷ []) h = absurd (omega arith)
thirteen (a0 ∷ a1 ∷ a2 ∷ a3 ∷ a4 ∷ a5 ∷ a6 ∷ a7 ∷ a8 ∷ a9 ∷ a10 ∷ []) h = absurd (omega arith)
thirteen (a0 ∷ a1 ∷ a2 ∷ a3 ∷ a4 ∷ a5 ∷ a6 ∷ a7 ∷ a8 ∷ a9 ∷ a10 ∷ a11 ∷ []) h = absurd (omega arith)
thirteen (a0 ∷ a1 ∷ a2 ∷ a3 ∷ a4 ∷ a5 ∷ a6 ∷ a7 ∷ a8 ∷ a9 ∷ a10 ∷ a11 ∷ a12 ∷ xs) h = refl

-- the two bytes at a place, from the number there
low_high : (file : List ℕ) (p n : ℕ) → ((i : ℕ) → get_or file i 0 < 256) → word_at file p ≡ n → (get_or file p 0 ≡ n % 256) × (get_or file (p + 1) 0 ≡ n / 256)
low_high file p n small e = let h = small p in (omega arith, omega arith)

-- a file in the right layout begins with the header's bytes
pub header_is : (file : List ℕ) (h u : ℕ) → ((i : ℕ) → get_or file i 0 < 256) → LaidOut file h u → take 13 file ≡ header_bytes h u
header_is file h u small l =
    let a = low_high file 1 13 small l.numerals.1 in
    let b = low_high file 3 (2 * h) small l.numerals.2 in
    let d = low_high file 5 (steps_start h) small l.steps.1 in
    let e = low_high file 7 (5 * u) small l.steps.2 in
    let f = low_high file 9 (outputs_start h u) small l.outputs.0 in
    let g = low_high file 11 32 small l.outputs.1 in
    thirteen file l.version.0
    ∙ (λ i. l.version.1 i ∷ a.0 i ∷ a.1 i ∷ b.0 i ∷ b.1 i ∷ d.0 i ∷ d.1 i ∷ e.0 i ∷ e.1 i ∷ f.0 i ∷ f.1 i ∷ g.0 i ∷ g.1 i ∷ [])

-- a file is its header and its three sections
four_parts : (file : List ℕ) (a b e : ℕ) → 13 ≤ a → a ≤ b → b ≤ e → length file ≡ e → take 13 file ++ (between 13 a file ++ (between a b file ++ between b e file)) ≡ file
four_parts file a b e h k l n =
    let last : between b e file ≡ drop b file = take_all (e - b) (drop b file) (simp length-drop (omega arith)) in
    ap (λ (xs : List ℕ). take 13 file ++ (between 13 a file ++ (between a b file ++ xs))) last
    ∙ ap (λ (xs : List ℕ). take 13 file ++ (between 13 a file ++ xs)) (step a b k)
    ∙ ap (λ (xs : List ℕ). take 13 file ++ xs) (step 13 a h)
    ∙ take-append-drop 13 file
  where
    step : (i j : ℕ) → i ≤ j → between i j file ++ drop j file ≡ drop i file
    step i j q =
        let s : i + (j - i) ≡ j = omega arith in
        ap (λ (m : ℕ). between i j file ++ drop m file) (sym s)
        ∙ ap (λ (xs : List ℕ). between i j file ++ xs) (sym (drop-drop (j - i) i file))
        ∙ take-append-drop (j - i) (drop i file)

-- a file from its parts
pub whole_file : (file : List ℕ) (h u : ℕ) (ns : List ℕ) (ss : List Step) (os : List Operand) → ((i : ℕ) → get_or file i 0 < 256) → LaidOut file h u → length ns ≡ h → length ss ≡ u → flat_map word_bytes ns ≡ numerals_part file h → flat_map step_bytes ss ≡ steps_part file h u → flat_map output_bytes os ≡ outputs_part file h u → file_bytes ns ss os ≡ file
whole_file file h u ns ss os small l eh eu ns_is ss_is os_is =
    let a : 13 ≤ steps_start h = omega arith in
    let b : steps_start h ≤ outputs_start h u = omega arith in
    let e : outputs_start h u ≤ file_length h u = omega arith in
    ◌∙◌ {b = header_bytes h u ++ (flat_map word_bytes ns ++ (flat_map step_bytes ss ++ flat_map output_bytes os))}
    (λ i. header_bytes (eh i) (eu i) ++ (flat_map word_bytes ns ++ (flat_map step_bytes ss ++ flat_map output_bytes os)))
    ((λ i. sym (header_is file h u small l) i ++ (ns_is i ++ (ss_is i ++ os_is i))) ∙ four_parts file (steps_start h) (outputs_start h u) (file_length h u) a b e l.outputs.2)

-- what is written is in the right layout
word_again : (n : ℕ) → n % 256 + 256 * (n / 256) ≡ n
word_again n = omega arith

pub laid_out : (ns : List ℕ) (ss : List Step) (os : List Operand) → Lawful ns ss os → LaidOut (file_bytes ns ss os) (length ns) (length ss)
laid_out ns ss os l =
    let long = length_file ns ss os in
    let sixteen = l.sixteen in
    record {
      version = (omega arith, refl);
      numerals = (l.few_numerals, refl, word_again (2 * length ns));
      steps = (l.few_steps, word_again (steps_start (length ns)), word_again (5 * length ss));
      outputs = (word_again (outputs_start (length ns) (length ss)), refl, omega arith);
    }

-- a layout gives one number of numerals and one of steps
pub same_layout : (file : List ℕ) (h u k v : ℕ) → LaidOut file h u → LaidOut file k v → (h ≡ k) × (u ≡ v)
same_layout file h u k v l m =
    let a = l.numerals.2 in
    let b = m.numerals.2 in
    let d = l.steps.2 in
    let e = m.steps.2 in
    (omega arith, omega arith)

-- the numerals of a section of h numerals are h
pub held_is : (file : List ℕ) (h u : ℕ) (ns : List ℕ) → LaidOut file h u → flat_map word_bytes ns ≡ numerals_part file h → length ns ≡ h
held_is file h u ns l same =
    let row : length (flat_map word_bytes ns) ≡ 2 * length ns = length_row word_bytes 2 (λ x. refl) ns in
    let cut : length (flat_map word_bytes ns) ≡ length (numerals_part file h) = ap length same in
    let rest : length (drop 13 file) ≡ length file - 13 = length-drop 13 file in
    let whole = l.outputs.2 in
    let part : length (numerals_part file h) ≡ steps_start h - 13 = length-take-le (steps_start h - 13) (drop 13 file) (omega arith) in
    omega arith
