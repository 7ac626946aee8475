-- The file of a sheet is read as that sheet.
use Rattle.std.proofs.Common.{◌≡◌, ℕ, ◌/◌, ◌%◌, ◌<◌, ◌≤◌, true, cond, eqb, List, [], ◌∷◌, ◌++◌, length, get_or, sym, refl, ap, ◌∙◌, subst, subst₂, ⊎_elim, arith, lit<}
use Rattle.std.specs.List.{flat_map}
use Rattle.std.proofs.lemmas.List.{same_lists, get_or_default}
use Rattle.std.proofs.lemmas.Bool.{ltb-true}
use Rattle.sheet.specs.declared.operand.Operand.{Operand}
use Rattle.sheet.specs.declared.operand.Operand.TheVariants.{Measure, Numeral, One, Zero, ResultOf}
use Rattle.sheet.specs.declared.operation.Operation.{Operation}
use Rattle.sheet.specs.declared.operation.Operation.TheVariants.{Add, Sub, Mul, Neg}
use Rattle.sheet.specs.declared.refusal.Refusal.{Refusal}
use Rattle.sheet.specs.declared.refusal.Refusal.TheVariants.{Layout, ShortBuffer, SmallNumeral, IllegalStep, IllegalOutput}
use Rattle.sheet.specs.declared.step.Step.{Step}
use Rattle.sheet.specs.declared.sheet.Sheet.{Sheet}
use Rattle.sheet.specs.declared.numerals.Numerals.{Numerals}
use Rattle.sheet.specs.Numerals.{numerals_list}
use Rattle.sheet.specs.Numbers.{operand_number, operation_number}
use Rattle.sheet.specs.Legal.{legal_operand, legal_step}
use Rattle.sheet.specs.Parts.{sheet_numerals, sheet_steps, sheet_outputs, Lawful, SameSheet}
use Rattle.sheet.proofs.Rules.{sheet_lawful, numerals_large}
use Rattle.sheet.proofs.Determined.{legal_left, legal_right}
use Rattle.sheet_file.specs.Bytes.{word_bytes, step_bytes, output_bytes}
use Rattle.sheet_file.specs.File.{file_bytes, sheet_bytes}
use Rattle.sheet_file.specs.Reading.{entry, StepsPair, OutputsPair, LaidOut, BrokenLayout, numerals_part, steps_part, outputs_part, NumeralEntry, StepEntry, OutputEntry, AllGood, FirstBad, Opened, RefusedAt}
use Rattle.sheet_file.proofs.Rows.{entry_row, all_good}
use Rattle.sheet_file.proofs.Files.{laid_out, same_layout, numerals_cut, steps_cut, outputs_cut}

-- a section whose entries are all good has no bad one
no_bad : (w : ℕ) (Good : ℕ → List ℕ → Type 0) (section : List ℕ) (at : ℕ) → AllGood w Good section → FirstBad w Good section at → ⊥
no_bad w Good section at good b = b.bad (good b.number (subst (λ (n : ℕ). n < length section) b.place b.within))

pub numerals_good : (ns : Numerals) (section : List ℕ) → flat_map word_bytes (numerals_list ns) ≡ section → AllGood 2 NumeralEntry section
numerals_good ns section whole = all_good word_bytes 2 (λ x. refl) NumeralEntry (numerals_list ns) section whole (lit< tt) (λ k d h. (get_or (numerals_list ns) k d, numerals_large ns k d h, refl)) 0

-- a layout that is right is not broken
not_broken : (file : List ℕ) (h u place : ℕ) → LaidOut file h u → BrokenLayout file place → ⊥
not_broken file h u place l broken =
    ⊎_elim (λ b. b.1 l.version)
    (⊎_elim (λ b. b.2 h l.numerals)
    (⊎_elim
    (λ b. (let p = b.2.1.2 in let q = l.numerals.2 in let e : h ≡ b.2.0 = omega arith in b.2.2 u (subst (λ (k : ℕ). StepsPair file k u) e l.steps)))
    (λ b. (let p = b.2.2.2 in let q = l.numerals.2 in let r = b.2.3.2 in let t = l.steps.2 in let e : h ≡ b.2.0 = omega arith in let f : u ≡ b.2.1 = omega arith in b.2.4 (subst₂ (λ (k v : ℕ). OutputsPair file k v) e f l.outputs))))) broken

-- the sections of a lawful file are good throughout
module _ (ns : List ℕ) (ss : List Step) (os : List Operand) (l : Lawful ns ss os) where
  good_numerals : AllGood 2 NumeralEntry (numerals_part (file_bytes ns ss os) (length ns))
  good_numerals = all_good word_bytes 2 (λ x. refl) NumeralEntry ns _ (sym (numerals_cut ns ss os)) (lit< tt) (λ k d h. (get_or ns k d, subst (λ (n : ℕ). 2 ≤ n) (get_or_default ns k 0 d h) (l.large k h), refl)) 0

  good_steps : AllGood 5 (StepEntry (length ns)) (steps_part (file_bytes ns ss os) (length ns) (length ss))
  good_steps = all_good step_bytes 5 (λ x. refl) (StepEntry (length ns)) ss _ (sym (steps_cut ns ss os)) (lit< tt) (λ k d h. (get_or ss k d, l.legal k d h, refl)) (record { operation = Add; left = Zero; right = Zero })

  good_outputs : AllGood 2 (OutputEntry (length ns) (length ss)) (outputs_part (file_bytes ns ss os) (length ns) (length ss))
  good_outputs = all_good output_bytes 2 (λ x. refl) (OutputEntry (length ns) (length ss)) os _ (sym (outputs_cut ns ss os l.sixteen)) (lit< tt) (λ k d h. (let b = l.sixteen in (get_or os k d, l.exist k d (omega arith), refl))) Zero

  fitting : (h u room : ℕ) → Opened (file_bytes ns ss os) room h u → length ss ≤ room
  fitting h u room o =
      let e = (same_layout (file_bytes ns ss os) (length ns) (length ss) h u (laid_out ns ss os l) o.layout).1 in
      let f = o.fits in
      omega arith

  -- nothing refuses a lawful file whose steps fit the buffer
  not_refused : (why : Refusal) (place room : ℕ) → length ss ≤ room → RefusedAt why place (file_bytes ns ss os) room → ⊥
  not_refused Layout place room fits broken = not_broken (file_bytes ns ss os) (length ns) (length ss) place (laid_out ns ss os l) broken
  not_refused ShortBuffer place room fits (h, u, layout, short, at_0) =
      let e = (same_layout (file_bytes ns ss os) (length ns) (length ss) h u (laid_out ns ss os l) layout).1 in omega arith
  not_refused SmallNumeral place room fits (h, u, at, opened, at_is, bad) =
      let e = (same_layout (file_bytes ns ss os) (length ns) (length ss) h u (laid_out ns ss os l) opened.layout).0 in
      no_bad 2 NumeralEntry _ at (subst (λ (k : ℕ). AllGood 2 NumeralEntry (numerals_part (file_bytes ns ss os) k)) e good_numerals) bad
  not_refused IllegalStep place room fits (h, u, at, opened, at_is, numerals, bad) =
      let e = same_layout (file_bytes ns ss os) (length ns) (length ss) h u (laid_out ns ss os l) opened.layout in
      no_bad 5 (StepEntry h) _ at (subst₂ (λ (k v : ℕ). AllGood 5 (StepEntry k) (steps_part (file_bytes ns ss os) k v)) e.0 e.1 good_steps) bad
  not_refused IllegalOutput place room fits (h, u, at, opened, at_is, numerals, steps, bad) =
      let e = same_layout (file_bytes ns ss os) (length ns) (length ss) h u (laid_out ns ss os l) opened.layout in
      no_bad 2 (OutputEntry h u) _ at (subst₂ (λ (k v : ℕ). AllGood 2 (OutputEntry k v) (outputs_part (file_bytes ns ss os) k v)) e.0 e.1 good_outputs) bad

  -- such a file is refused for want of room alone
  only_short : (why : Refusal) (place room : ℕ) → RefusedAt why place (file_bytes ns ss os) room → (why ≡ ShortBuffer) × (place ≡ 0) × (room < length ss)
  only_short ShortBuffer place room (h, u, layout, short, at_0) =
      let e = (same_layout (file_bytes ns ss os) (length ns) (length ss) h u (laid_out ns ss os l) layout).1 in (refl, at_0, omega arith)
  only_short Layout place room broken = absurd (not_broken (file_bytes ns ss os) (length ns) (length ss) place (laid_out ns ss os l) broken)
  only_short SmallNumeral place room r = absurd (not_refused SmallNumeral place room (fitting r.0 r.1 room r.3) r)
  only_short IllegalStep place room r = absurd (not_refused IllegalStep place room (fitting r.0 r.1 room r.3) r)
  only_short IllegalOutput place room r = absurd (not_refused IllegalOutput place room (fitting r.0 r.1 room r.3) r)

pub known_short : (s : Sheet) (file : List ℕ) (why : Refusal) (place room : ℕ) → sheet_bytes s ≡ file → RefusedAt why place file room → (why ≡ ShortBuffer) × (place ≡ 0) × (room < length (sheet_steps s))
known_short s file why place room same refused =
    only_short (sheet_numerals s) (sheet_steps s) (sheet_outputs s) (sheet_lawful s) why place room (subst (λ (xs : List ℕ). RefusedAt why place xs room) (sym same) refused)

pub known_not_refused : (s : Sheet) (file : List ℕ) (why : Refusal) (place room : ℕ) → sheet_bytes s ≡ file → length (sheet_steps s) ≤ room → RefusedAt why place file room → ⊥
known_not_refused s file why place room same fits refused =
    not_refused (sheet_numerals s) (sheet_steps s) (sheet_outputs s) (sheet_lawful s) why place room fits (subst (λ (xs : List ℕ). RefusedAt why place xs room) (sym same) refused)

-- numbers, operands and steps are told by their bytes
word_same : (m n : ℕ) → word_bytes m ≡ word_bytes n → m ≡ n
word_same m n e =
    let a : m % 256 ≡ n % 256 = ap (λ (xs : List ℕ). get_or xs 0 0) e in
    let b : m / 256 ≡ n / 256 = ap (λ (xs : List ℕ). get_or xs 1 0) e in
    omega arith

operand_same : (held before : ℕ) (o p : Operand) → held ≤ 8 → legal_operand held before o ≡ true → legal_operand held before p ≡ true → operand_number o ≡ operand_number p → o ≡ p
operand_same held before (Measure i) (Measure j) few l m e = ap Measure e
operand_same held before (Measure i) (Numeral j) few l m e = let a = ltb-true i 8 l in absurd (omega arith)
operand_same held before (Measure i) One few l m e = let a = ltb-true i 8 l in absurd (omega arith)
operand_same held before (Measure i) Zero few l m e = let a = ltb-true i 8 l in absurd (omega arith)
operand_same held before (Measure i) (ResultOf j) few l m e = let a = ltb-true i 8 l in absurd (omega arith)
operand_same held before (Numeral i) (Measure j) few l m e = let a = ltb-true j 8 m in absurd (omega arith)
operand_same held before (Numeral i) (Numeral j) few l m e = let q : i ≡ j = omega arith in ap Numeral q
operand_same held before (Numeral i) One few l m e = let a = ltb-true i held l in absurd (omega arith)
operand_same held before (Numeral i) Zero few l m e = let a = ltb-true i held l in absurd (omega arith)
operand_same held before (Numeral i) (ResultOf j) few l m e = let a = ltb-true i held l in absurd (omega arith)
operand_same held before One (Measure j) few l m e = let a = ltb-true j 8 m in absurd (omega arith)
operand_same held before One (Numeral j) few l m e = let a = ltb-true j held m in absurd (omega arith)
operand_same held before One One few l m e = refl
operand_same held before One Zero few l m e = absurd (omega arith)
operand_same held before One (ResultOf j) few l m e = absurd (omega arith)
operand_same held before Zero (Measure j) few l m e = let a = ltb-true j 8 m in absurd (omega arith)
operand_same held before Zero (Numeral j) few l m e = let a = ltb-true j held m in absurd (omega arith)
operand_same held before Zero One few l m e = absurd (omega arith)
operand_same held before Zero Zero few l m e = refl
operand_same held before Zero (ResultOf j) few l m e = absurd (omega arith)
operand_same held before (ResultOf i) (Measure j) few l m e = let a = ltb-true j 8 m in absurd (omega arith)
operand_same held before (ResultOf i) (Numeral j) few l m e = let a = ltb-true j held m in absurd (omega arith)
operand_same held before (ResultOf i) One few l m e = absurd (omega arith)
operand_same held before (ResultOf i) Zero few l m e = absurd (omega arith)
operand_same held before (ResultOf i) (ResultOf j) few l m e = let q : i ≡ j = omega arith in ap ResultOf q

-- the operation with a number
named : ℕ → Operation
named n = cond (eqb n 1) Add (cond (eqb n 2) Sub (cond (eqb n 3) Mul Neg))

named_number : (o : Operation) → named (operation_number o) ≡ o
unfolding named
named_number Add = refl
named_number Sub = refl
named_number Mul = refl
named_number Neg = refl

operation_same : (o p : Operation) → operation_number o ≡ operation_number p → o ≡ p
operation_same o p e = sym (named_number o) ∙ ap named e ∙ named_number p

step_same : (held at : ℕ) (s t : Step) → held ≤ 8 → legal_step held at s ≡ true → legal_step held at t ≡ true → step_bytes s ≡ step_bytes t → s ≡ t
step_same held at s t few l m e =
    let byte = λ (k : ℕ). ap (λ (xs : List ℕ). get_or xs k 0) e in
    let o = operation_same s.operation t.operation (byte 0) in
    let p = operand_same held at s.left t.left few (legal_left held at s l) (legal_left held at t m) (word_same _ _ (λ i. byte 1 i ∷ byte 2 i ∷ [])) in
    let q = operand_same held at s.right t.right few (legal_right held at s l) (legal_right held at t m) (word_same _ _ (λ i. byte 3 i ∷ byte 4 i ∷ [])) in
    λ i. record { operation = o i; left = p i; right = q i }

-- rows of items that their bytes tell apart
row_same : {X : Type 0} (f : X → List ℕ) (w : ℕ) (wide : (x : X) → length (f x) ≡ w) (P : ℕ → X → Type 0) → ((k : ℕ) (x y : X) → P k x → P k y → f x ≡ f y → x ≡ y) → (xs ys : List X) → length xs ≡ length ys → ((k : ℕ) (d : X) → k < length xs → P k (get_or xs k d)) → ((k : ℕ) (d : X) → k < length ys → P k (get_or ys k d)) → flat_map f xs ≡ flat_map f ys → xs ≡ ys
row_same f w wide P told xs ys long px py same =
    same_lists xs ys long
    (λ k d h. (let j : k < length ys = omega arith in
    told k (get_or xs k d) (get_or ys k d) (px k d h) (py k d j)
    (sym (entry_row f w wide xs [] k d h) ∙ ap (λ (zs : List ℕ). entry w (zs ++ []) k) same ∙ entry_row f w wide ys [] k d j)))

-- lawful parts are told by their file
parts_same : (ns ms : List ℕ) (ss ts : List Step) (os ps : List Operand) → Lawful ns ss os → Lawful ms ts ps → file_bytes ns ss os ≡ file_bytes ms ts ps → (ns ≡ ms) × (ss ≡ ts) × (os ≡ ps)
parts_same ns ms ss ts os ps l m same =
    let both = same_layout (file_bytes ns ss os) (length ns) (length ss) (length ms) (length ts) (laid_out ns ss os l) (subst (λ (xs : List ℕ). LaidOut xs (length ms) (length ts)) (sym same) (laid_out ms ts ps m)) in
    let h : length ns ≡ length ms = both.0 in
    let u : length ss ≡ length ts = both.1 in
    let few = l.few_numerals in
    let a = l.sixteen in
    let b = m.sixteen in
    let numerals : flat_map word_bytes ns ≡ flat_map word_bytes ms = sym (numerals_cut ns ss os) ∙ (λ i. numerals_part (same i) (h i)) ∙ numerals_cut ms ts ps in
    let steps : flat_map step_bytes ss ≡ flat_map step_bytes ts = sym (steps_cut ns ss os) ∙ (λ i. steps_part (same i) (h i) (u i)) ∙ steps_cut ms ts ps in
    let outputs : flat_map output_bytes os ≡ flat_map output_bytes ps = sym (outputs_cut ns ss os l.sixteen) ∙ (λ i. outputs_part (same i) (h i) (u i)) ∙ outputs_cut ms ts ps m.sixteen in
    let legal : (k : ℕ) (d : Step) → k < length ts → legal_step (length ns) k (get_or ts k d) ≡ true = subst (λ (n : ℕ). (k : ℕ) (d : Step) → k < length ts → legal_step n k (get_or ts k d) ≡ true) (sym h) m.legal in
    let exist : (k : ℕ) (d : Operand) → k < 16 → legal_operand (length ns) (length ss) (get_or ps k d) ≡ true = subst₂ (λ (n v : ℕ). (k : ℕ) (d : Operand) → k < 16 → legal_operand n v (get_or ps k d) ≡ true) (sym h) (sym u) m.exist in (
      row_same word_bytes 2 (λ x. refl) (λ k n. Unit {0}) (λ k x y p q e. word_same x y e) ns ms h (λ k d i. tt) (λ k d i. tt) numerals,
      row_same step_bytes 5 (λ x. refl) (λ k s. legal_step (length ns) k s ≡ true) (λ k x y p q e. step_same (length ns) k x y few p q e) ss ts u l.legal legal steps,
      row_same output_bytes 2 (λ x. refl) (λ k o. legal_operand (length ns) (length ss) o ≡ true) (λ k x y p q e. operand_same (length ns) (length ss) x y few p q (word_same _ _ e)) os ps (a ∙ sym b) (λ k d i. l.exist k d (omega arith)) (λ k d i. exist k d (omega arith)) outputs,
    )

-- two sheets with one file are the same
pub same_sheet : (s t : Sheet) → sheet_bytes s ≡ sheet_bytes t → SameSheet s t
same_sheet s t e =
    let p = parts_same (sheet_numerals s) (sheet_numerals t) (sheet_steps s) (sheet_steps t) (sheet_outputs s) (sheet_outputs t) (sheet_lawful s) (sheet_lawful t) e in
    record { numerals = p.0; steps = p.1; outputs = p.2 }
