-- The law of a run leaves one value for each cell.
use Rattle.std.proofs.Common.{◌≡◌, ℕ, zero, suc, ◌<◌, ◌≤◌, true, List, length, get_or, sym, refl, ap, ◌∙◌, subst, ⊎_elim, le_refl, arith}
use Rattle.std.proofs.lemmas.Bool.{cases_lt, ltb-true, lt-ltb, and_parts}
use Rattle.ring.specs.Ring.{CommRing}
use Rattle.sheet.specs.declared.operand.Operand.{Operand}
use Rattle.sheet.specs.declared.operand.Operand.TheVariants.{Measure, Numeral, One, Zero, ResultOf}
use Rattle.sheet.specs.declared.operation.Operation.TheVariants.{Add}
use Rattle.sheet.specs.declared.step.Step.{Step}
use Rattle.sheet.specs.Legal.{legal_operand, right_fits, legal_step, LegalSteps}
use Rattle.sheet.specs.Values.{operate, operand_value, step_value, StepValues, OnlyCells}

-- the operands of a legal step are legal
pub legal_left : (held n : ℕ) (s : Step) → legal_step held n s ≡ true → legal_operand held n s.left ≡ true
legal_left held n s l = (and_parts _ _ l).0

pub legal_right : (held n : ℕ) (s : Step) → legal_step held n s ≡ true → legal_operand held n s.right ≡ true
legal_right held n s l = (and_parts (legal_operand held n s.right) (right_fits s.operation s.right) (and_parts (legal_operand held n s.left) _ l).1).0

-- a legal operand stays legal behind more steps
pub legal_later : (held m n : ℕ) (o : Operand) → m ≤ n → legal_operand held m o ≡ true → legal_operand held n o ≡ true
legal_later held m n (Measure i) h l = l
legal_later held m n (Numeral i) h l = l
legal_later held m n One h l = l
legal_later held m n Zero h l = l
legal_later held m n (ResultOf i) h l = let b = ltb-true i m l in lt-ltb i n (omega arith)

module _ {S : Type 0} (c : CommRing S) (numerals : List ℕ) (measures : List S) where
  -- operands and steps see only the cells before them
  pub operand_agree : (held n : ℕ) (xs ys : List S) (o : Operand) → legal_operand held n o ≡ true → ((k : ℕ) → k < n → get_or xs k c.zero ≡ get_or ys k c.zero) → operand_value c numerals measures xs o ≡ operand_value c numerals measures ys o
  operand_agree held n xs ys (Measure i) l same = refl
  operand_agree held n xs ys (Numeral i) l same = refl
  operand_agree held n xs ys One l same = refl
  operand_agree held n xs ys Zero l same = refl
  operand_agree held n xs ys (ResultOf i) l same = same i (ltb-true i n l)

  pub step_agree : (held n : ℕ) (xs ys : List S) (s : Step) → legal_step held n s ≡ true → ((k : ℕ) → k < n → get_or xs k c.zero ≡ get_or ys k c.zero) → step_value c numerals measures xs s ≡ step_value c numerals measures ys s
  step_agree held n xs ys s l same =
      ap (λ (x : S). operate c s.operation x (operand_value c numerals measures xs s.right)) (operand_agree held n xs ys s.left (legal_left held n s l) same)
      ∙ ap (operate c s.operation (operand_value c numerals measures ys s.left)) (operand_agree held n xs ys s.right (legal_right held n s l) same)

  pub values_agree : (held used : ℕ) (steps : List Step) (xs ys : List S) (d : Step) → LegalSteps held used steps → StepValues c numerals measures steps used xs → StepValues c numerals measures steps used ys → (n : ℕ) → n ≤ used → (k : ℕ) → k < n → get_or xs k c.zero ≡ get_or ys k c.zero
  values_agree held used steps xs ys d legal wx wy zero h k l = absurd (omega arith)
  values_agree held used steps xs ys d legal wx wy (suc n) h k l =
      let u : n < used = omega arith in
      let ih : (j : ℕ) → j < n → get_or xs j c.zero ≡ get_or ys j c.zero = values_agree held used steps xs ys d legal wx wy n (omega arith) in
      ⊎_elim (λ b. ih k b)
      (λ b. let e : n ≡ k = omega arith in
      subst (λ (j : ℕ). get_or xs j c.zero ≡ get_or ys j c.zero) e
      (wx n d u ∙ step_agree held n xs ys (get_or steps n d) (legal n d u) ih ∙ sym (wy n d u)))
      (cases_lt k n)

  pub only_cells : (held : ℕ) (steps : List Step) (cells : List S) → LegalSteps held (length steps) steps → StepValues c numerals measures steps (length steps) cells → OnlyCells c numerals measures steps cells
  only_cells held steps cells legal law others kept =
      values_agree held (length steps) steps others cells (record { operation = Add; left = Zero; right = Zero }) legal kept law (length steps) (le_refl (length steps))
