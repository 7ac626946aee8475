-- One cell more keeps the law.
use Rattle.std.proofs.Common.{◌≡◌, ℕ, ◌+◌, ◌<◌, ◌≤◌, eqb, ◌≢◌, List, length, get_or, set, Ok, sym, ap, ◌∙◌, subst, ⊎_elim, arith}
use Rattle.std.proofs.lemmas.Bool.{cases_lt, cases_Bool, eqb-true, cond-false}
use Rattle.std.proofs.lemmas.List.{get_or-set_same, get_or-set_other, get_or_default}
use Rattle.ring.specs.Ring.{CommRing}
use Rattle.sheet.specs.declared.operand.Operand.{Operand}
use Rattle.sheet.specs.declared.step.Step.{Step}
use Rattle.sheet.specs.Legal.{LegalSteps}
use Rattle.sheet.specs.Values.{operand_value, step_value, StepValues, OutputValues}
use Rattle.runner.specs.Runs.{run_answer}
use Rattle.sheet.proofs.Determined.{step_agree}

-- a run that is not refused has eight measures
pub ran_eight : (measures steps cells places : ℕ) (u : Unit {0}) → Ok u ≡ run_answer measures steps cells places → measures ≡ 8
ran_eight measures steps cells places u e =
    ⊎_elim (λ t. eqb-true measures 8 t)
    (λ f. (let z : ◌≡◌ {A = ℕ} 0 1 = cc (e ∙ cond-false (eqb measures 8) _ _ f) in absurd (omega arith)))
    (cases_Bool (eqb measures 8))

module _ {S : Type 0} (c : CommRing S) (numerals : List ℕ) (measures : List S) where
  -- one step more
  pub values_more : (held n : ℕ) (steps : List Step) (cells : List S) (d : Step) (v : S) → LegalSteps held (length steps) steps → n < length steps → n < length cells → v ≡ step_value c numerals measures cells (get_or steps n d) → StepValues c numerals measures steps n cells → StepValues c numerals measures steps (n + 1) (set cells n v)
  values_more held n steps cells d v legal under within worth before k e h =
      let same = λ (m : ℕ) (le : m ≤ n) (u : m < length steps). step_agree c numerals measures held m (set cells n v) cells (get_or steps m e) (legal m e u) (λ j l. (let ne : j ≢ n = omega arith in get_or-set_other cells n j v c.zero ne)) in
      ⊎_elim
      (λ l. let ne : k ≢ n = omega arith in get_or-set_other cells n k v c.zero ne ∙ before k e l ∙ sym (same k (omega arith) (omega arith)))
      (λ l. let q : n ≡ k = omega arith in
      subst (λ (j : ℕ). get_or (set cells n v) j c.zero ≡ step_value c numerals measures (set cells n v) (get_or steps j e)) q
      (get_or-set_same cells n v c.zero within ∙ worth ∙ ap (step_value c numerals measures cells) (get_or_default steps n d e under) ∙ sym (same n (omega arith) under)))
      (cases_lt k n)

  -- one output more
  pub outputs_more : (n : ℕ) (cells values : List S) (operands : List Operand) (d : Operand) (v : S) → n < length values → n < length operands → v ≡ operand_value c numerals measures cells (get_or operands n d) → OutputValues c numerals measures cells operands n values → OutputValues c numerals measures cells operands (n + 1) (set values n v)
  outputs_more n cells values operands d v within room worth before k e h =
      ⊎_elim
      (λ l. let ne : k ≢ n = omega arith in get_or-set_other values n k v c.zero ne ∙ before k e l)
      (λ l. let q : n ≡ k = omega arith in
      subst (λ (j : ℕ). get_or (set values n v) j c.zero ≡ operand_value c numerals measures cells (get_or operands j e)) q
      (get_or-set_same values n v c.zero within ∙ worth ∙ ap (operand_value c numerals measures cells) (get_or_default operands n d e room)))
      (cases_lt k n)
