-- The promise follows from the rules.
use Rattle.std.proofs.Common.{◌≡◌, ℕ, zero, suc, ◌+◌, ◌≤◌, Bool, List, map, length, get_or, take, Ok, Err, vec_items, Vec, sym, refl, ap, ◌∙◌, subst, subst₂, arith}
use Rattle.std.specs.declared.alloc.Global.{Global}
use Rattle.ring.specs.Ring.{CommRing}
use Rattle.sheet.specs.declared.operand.Operand.{Operand}
use Rattle.sheet.specs.declared.operand.Operand.TheVariants.{Zero}
use Rattle.sheet.specs.declared.operation.Operation.{Operation}
use Rattle.sheet.specs.declared.sheet.Sheet.{Sheet}
use Rattle.sheet.specs.declared.step.Step.{Step}
use Rattle.sheet.specs.Counting.{adds, how_many, multiplies, negates}
use Rattle.sheet.specs.Parts.{sheet_outputs, sheet_steps}
use Rattle.sheet.specs.Values.{StepValues, operand_value}
use Rattle.sheet.proofs.Rules.{few_numerals}
use Rattle.tablet.specs.Evaluating.{Worth}
use Rattle.emission.specs.Promises.{steps_of}
use Rattle.emission.specs.Steps.{emit_outputs}
use Rattle.emission.proofs.Counting.{emit_counts}
use Rattle.emission.proofs.Makings.{emit_values}
use Rattle.kernels.specs.declared.kernel.Kernel.{Kernel}
use Rattle.rewriting.specs.Book.{Term, accepted, written}
use Rattle.rewriting.specs.Presses.{more, none}
use Rattle.rewriting.proofs.Books.{written_worth}
use Rattle.rewriting.proofs.Chains.{like_kept, like_lowers, presses_keep_worth, presses_lower}
use Rattle.table.specs.declared.table.Table.{Table}
use Rattle.table.specs.Of.{order_of, style_of}
use Rattle.table.specs.Sound.{Sound}
use Rattle.rules.specs.declared.answers.SettleAnswer.{SettleAnswer}
use Rattle.rules.specs.declared.refusals.SettleEnd.TheVariants.{NothingLeft}
use Rattle.rules.specs.Calls.{EmitMade}
use Rattle.rules.specs.Settling.{LeavesNothing}
use Rattle.rules.proofs.Courses.{CoursesOnward, course_left, course_onward, presses_then, stays}
use Rattle.rules.proofs.Follows.{factor_onward, share_onward}
use Rattle.playing.specs.declared.outcome.Outcome.{Outcome}
use Rattle.playing.specs.declared.outcome.Outcome.TheVariants.{Kernels as KernelsOut, Factor as FactorOut, Share as ShareOut, Settle as SettleOut, Emit as EmitOut}
use Rattle.playing.specs.declared.press.Press.{Press}
use Rattle.playing.specs.declared.press.Press.TheVariants.{Settle, Share}
use Rattle.playing.specs.Rules.{Rule, by_emit, by_factor, by_kernels, by_refusal, by_settle, by_share}
use Rattle.playing.specs.Promise.{CountsKept, Opened, Played, Promise, ValuesKept}

module _ {S R : Type 0} (c : CommRing S) (meaning : R → S) (measures : List R) where
  -- the rewritings that one press makes, and the sound table that it leads to
  record Leads (t t' : Table) : Type 0 where
    m : ℕ
    a : ℕ
    onward : CoursesOnward t t' m a

  same_table : (t : Table) → Sound t → Leads t t
  same_table t z = record { m = 0; a = 0; onward = stays t t refl z }

  rule_leads : {p : Press} {o : Outcome R} {t t' : Table} → Rule c meaning measures p o t t' → Sound t → Leads t t'
  rule_leads (by_kernels {t} l e h) z = same_table t z
  rule_leads (by_factor {t} {t'} {w} {places} {list} {answer = Ok a} l e h) z =
      let one = factor_onward w t t' (take h.2.0 (vec_items list)) a z h.1 h.2.1.listed h.2.2 in
      record { m = a.multiplications + 0; a = a.additions + 0; onward = record { presses = more one.press none; sound = one.sound } }
  rule_leads (by_factor {t} {t'} {w} {places} {list} {answer = Err why} l e h) z = record { m = 0; a = 0; onward = stays t t' h.0 z }
  rule_leads (by_share {t} {t'} {answer = Ok a} h) z =
      let one = share_onward t t' a z h.0 h.1 in
      record { m = a.multiplications + 0; a = 0 + 0; onward = record { presses = more one.press none; sound = one.sound } }
  rule_leads (by_share {t} {t'} {answer = Err why} h) z = record { m = 0; a = 0; onward = stays t t' h.0 z }
  rule_leads (by_settle {t} {t'} {w} {places} {list} {answer = Ok a} l e h) z = record { m = a.multiplications; a = a.additions; onward = course_onward w h.1 z }
  rule_leads (by_settle {t} {t'} {w} {places} {list} {answer = Err why} l e h) z = record { m = 0; a = 0; onward = stays t t' h.1 z }
  rule_leads (by_emit {t} buffer e h v) z = same_table t z
  rule_leads (by_refusal {t} h) z = same_table t z

  -- the tables along the presses
  module _ (terms : List Term) (presses : List Press) (outcomes : List (Outcome R)) (k : Played c meaning measures terms presses outcomes) (p : Press) (o : Outcome R) (first : Sound (k.tables 0)) where
    along : (i : ℕ) → i ≤ length presses → Leads (k.tables 0) (k.tables i)
    along zero h = same_table (k.tables 0) first
    along (suc i) h =
        let before = along i (omega arith) in
        let next = rule_leads (k.ruled i p o (omega arith)) before.onward.sound in
        record {
          m = before.m + next.m;
          a = before.a + next.a;
          onward = record { presses = presses_then before.onward.presses next.onward.presses; sound = next.onward.sound };
        }

  -- a sheet that was emitted behind presses keeps the values and the counts
  module _ (offered : List Term) (t t' : Table) (opened : Opened (accepted offered) t) (leads : Leads t t') (buffer : List Step) (sheet : Sheet) (made : EmitMade t' buffer sheet) where
    values_kept : (values : Vec R Global) → Worth c meaning sheet measures (vec_items values) → ValuesKept c meaning measures (accepted offered) values
    values_kept values v f l =
        let s = style_of t' in
        let ms = map meaning measures in
        let law : StepValues c s.numerals ms (steps_of s (order_of t')) (length (steps_of s (order_of t'))) v.cells =
        subst (λ (steps : List Step). StepValues c s.numerals ms steps (length steps) v.cells) made.steps
        (subst (λ (ns : List ℕ). StepValues c ns ms (sheet_steps sheet) (length (sheet_steps sheet)) v.cells) made.numerals v.steps)
        in
        let held : length s.numerals ≤ 8 = omega (arith, few_numerals t'.numerals) in
        let e = emit_values c s (order_of t') leads.onward.sound.closed leads.onward.sound.ordered held ms v.cells law in
        let kept = presses_keep_worth c (style_of t) s leads.m leads.a leads.onward.presses (λ n. get_or ms n c.zero) e.value e.fits in
        let like = like_kept (written (accepted offered)) (style_of t) opened.rows c (λ n. get_or ms n c.zero) e.value kept.fits in
        let out : get_or (map meaning (vec_items values)) f c.zero ≡ operand_value c s.numerals ms v.cells (get_or (emit_outputs s.expression (order_of t')) f Zero) =
        v.outputs f Zero l
        ∙ ap (λ (ns : List ℕ). operand_value c ns ms v.cells (get_or (sheet_outputs sheet) f Zero)) made.numerals
        ∙ ap (λ (os : List Operand). operand_value c s.numerals ms v.cells (get_or os f Zero)) made.outputs
        in
        out ∙ e.formulas f l ∙ sym (kept.values f (omega arith)) ∙ sym (like.values f (omega arith)) ∙ written_worth c offered (λ n. get_or ms n c.zero) e.value like.fits f

    counts_kept : CountsKept (accepted offered) sheet
    counts_kept =
        let s = style_of t' in
        let tally = emit_counts s (order_of t') leads.onward.sound.ordered in
        let lower = presses_lower (style_of t) s leads.m leads.a leads.onward.presses in
        let like = like_lowers (written (accepted offered)) (style_of t) opened.rows in
        let is : (test : Operation → Bool) → how_many test (sheet_steps sheet) ≡ how_many test (steps_of s (order_of t')) = λ test. ap (how_many test) made.steps in
        record {
          mul = omega (arith, is multiplies, tally.mul, lower.fewer_multiplications, like.fewer_multiplications);
          add = omega (arith, is adds, tally.add, lower.fewer_additions, like.fewer_additions);
          neg = is negates ∙ tally.neg ∙ sym lower.as_many_negations ∙ sym like.as_many_negations;
        }

  -- what an emitted sheet's rule says
  abbrev emitted_sheet : Sheet → Outcome R → Sheet
  emitted_sheet d (KernelsOut l a) = d
  emitted_sheet d (FactorOut l a) = d
  emitted_sheet d (ShareOut a) = d
  emitted_sheet d (SettleOut l a) = d
  emitted_sheet d (EmitOut (Ok x)) = x.0
  emitted_sheet d (EmitOut (Err e)) = d

  abbrev emitted_values : Vec R Global → Outcome R → Vec R Global
  emitted_values d (KernelsOut l a) = d
  emitted_values d (FactorOut l a) = d
  emitted_values d (ShareOut a) = d
  emitted_values d (SettleOut l a) = d
  emitted_values d (EmitOut (Ok x)) = x.1
  emitted_values d (EmitOut (Err e)) = d

  emit_rule : {P : Type 0} {p : Press} {o : Outcome R} {t t' : Table} (sheet : Sheet) (values : Vec R Global) → Rule c meaning measures p o t t' → o ≡ EmitOut (Ok (sheet, values))
      → ((buffer : List Step) → EmitMade t buffer sheet → Worth c meaning sheet measures (vec_items values) → P) → P
  emit_rule sheet values (by_kernels l e h) q f = absurd (cc)
  emit_rule sheet values (by_factor l e h) q f = absurd (cc)
  emit_rule sheet values (by_share h) q f = absurd (cc)
  emit_rule sheet values (by_settle l e h) q f = absurd (cc)
  emit_rule sheet values (by_emit {t} {sheet = s₁} {values = v₁} buffer e h v) q f =
      let a : s₁ ≡ sheet = ap (emitted_sheet sheet) q in
      let b : v₁ ≡ values = ap (emitted_values values) q in
      f buffer (subst (EmitMade t buffer) a h) (subst₂ (λ (x : Sheet) (y : Vec R Global). Worth c meaning x measures (vec_items y)) a b v)
  emit_rule sheet values (by_refusal h) q f = absurd (cc)

  -- what a settle that was accepted leaves
  settle_rule : {p : Press} {o : Outcome R} {t t' : Table} (w places : ℕ) (list : Vec Kernel Global) (a : SettleAnswer) → Rule c meaning measures p o t t'
      → p ≡ Settle w places → o ≡ SettleOut list (Ok a) → a.end ≡ NothingLeft → LeavesNothing w t'
  settle_rule w places list a (by_kernels l e h) q r n = absurd (cc)
  settle_rule w places list a (by_factor l e h) q r n = absurd (cc)
  settle_rule w places list a (by_share h) q r n = absurd (cc)
  settle_rule w places list a (by_settle {t} {t'} {w = w₁} {answer = Ok b} l e h) q r n =
      let same : w₁ ≡ w = cc in
      let done : b.end ≡ NothingLeft = ap (λ (x : SettleAnswer). x.end) (let i : b ≡ a = cc in i) ∙ n in
      subst (λ (x : ℕ). LeavesNothing x t') same (course_left w₁ h.1 tt done)
  settle_rule w places list a (by_settle {answer = Err why} l e h) q r n = absurd (cc)
  settle_rule w places list a (by_emit buffer e h v) q r n = absurd (cc)
  settle_rule w places list a (by_refusal h) q r n = absurd (cc)

  pub promise_kept : (offered : List Term) (presses : List Press) (outcomes : List (Outcome R)) → (k : Played c meaning measures (accepted offered) presses outcomes)
      → Sound (k.tables 0) → Promise c meaning measures offered presses outcomes
  promise_kept offered presses outcomes k z = record {
    played = k;
    values = λ i o sheet values l q.
        emit_rule sheet values (k.ruled i Share o (omega (arith, k.as_many))) q
        (λ buffer made v. values_kept offered (k.tables 0) (k.tables i) k.opened (along (accepted offered) presses outcomes k Share o z i (omega (arith, k.as_many))) buffer sheet made values v);
    counts = λ i o sheet values l q.
        emit_rule sheet values (k.ruled i Share o (omega (arith, k.as_many))) q
        (λ buffer made v. counts_kept offered (k.tables 0) (k.tables i) k.opened (along (accepted offered) presses outcomes k Share o z i (omega (arith, k.as_many))) buffer sheet made);
    nothing_left = λ i p o w places list a l q r n. settle_rule w places list a (k.ruled i p o l) q r n;
  }
