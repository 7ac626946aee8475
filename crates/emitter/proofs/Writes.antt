-- Steps behind a draft, and chains that are written link by link.
use Rattle.std.proofs.Common.{◌≡◌, ℕ, suc, ◌+◌, ◌≤◌, List, [], ◌∷◌, ◌++◌, length, take, drop, sym, refl, ap, ◌∙◌, subst, ap₂, append_assoc, add-zero, arith}
use Rattle.std.proofs.lemmas.List.{append-nil, length-append, drop-drop}
use Rattle.sheet.specs.declared.operand.Operand.{Operand}
use Rattle.sheet.specs.declared.operand.Operand.TheVariants.{ResultOf}
use Rattle.sheet.specs.declared.step.Step.{Step}
use Rattle.emission.specs.Steps.{Link, steps_from, end_from}
use Rattle.emission.proofs.Chains.{length_steps}
use Rattle.emitter.specs.declared.draft.Draft.{Draft}
use Rattle.emitter.specs.Appended.{Appended, HasRoom, places}
use Rattle.emitter.specs.Chained.{Chained}

pub appended_none : (d : Draft) → Appended d [] d
appended_none d = record { next = sym (add-zero d.next); front = sym (append-nil (take d.next (places d))); behind = refl; long = refl }

pub appended_then : {old mid new : Draft} {xs ys : List Step} → Appended old xs mid → Appended mid ys new → Appended old (xs ++ ys) new
appended_then {old} {mid} {new} {xs} {ys} p q =
    let whole : length (xs ++ ys) ≡ length xs + length ys = length-append xs ys in
    let a = p.next in
    let b = q.next in
    let m = mid.next in
    record {
      next = omega arith;
      front = q.front ∙ ap (λ (zs : List Step). zs ++ ys) p.front ∙ append_assoc (take old.next (places old)) xs ys;
      behind = q.behind ∙ ap (λ (n : ℕ). drop n (places mid)) b ∙ sym (drop-drop (length ys) m (places mid)) ∙ ap (drop (length ys)) p.behind
          ∙ drop-drop (length ys) m (places old) ∙ ap (λ (n : ℕ). drop n (places old)) (sym b);
      long = q.long ∙ p.long;
    }

pub appended_same : {old new : Draft} {xs ys : List Step} → Appended old xs new → xs ≡ ys → Appended old ys new
appended_same {old} {new} p same = subst (λ (zs : List Step). Appended old zs new) same p

-- the room that is left
pub room_left : {old new : Draft} {xs : List Step} (n m : ℕ) → Appended old xs new → HasRoom old n → length xs + m ≤ n → HasRoom new m
room_left n m p room h =
    let next = p.next in
    let long = p.long in
    omega arith

pub chained_none : (d : Draft) (x : Operand) → Chained d x [] x d
chained_none d x = record { steps = appended_none d; end = refl }

pub chained_next : {old new : Draft} {x result : Operand} {ks : List Link} → Chained old x ks result new → new.next ≡ old.next + length ks
chained_next {old = old} {x = x} {ks = ks} c = c.steps.next ∙ ap (λ (i : ℕ). old.next + i) (length_steps old.next x ks)

pub room_linked : {old new : Draft} {x y : Operand} {ks : List Link} (n m : ℕ) → Chained old x ks y new → HasRoom old n → length ks + m ≤ n → HasRoom new m
room_linked {old = old} {x = x} {ks = ks} n m p room h = room_left n m p.steps room (omega (arith, length_steps old.next x ks))

steps_append : (n : ℕ) (x : Operand) (ks js : List Link) → steps_from n x (ks ++ js) ≡ steps_from n x ks ++ steps_from (n + length ks) (end_from n x ks) js
steps_append n x [] js = ap (λ (m : ℕ). steps_from m x js) (sym (add-zero n))
steps_append n x (k ∷ ks) js =
    let e : n + 1 + length ks ≡ n + suc (length ks) = omega arith in
    ap (λ (ss : List Step). record { operation = k.0; left = x; right = k.1 } ∷ ss)
    (steps_append (n + 1) (ResultOf n) ks js ∙ ap (λ (m : ℕ). steps_from (n + 1) (ResultOf n) ks ++ steps_from m (end_from (n + 1) (ResultOf n) ks) js) e)

end_append : (n : ℕ) (x : Operand) (ks js : List Link) → end_from n x (ks ++ js) ≡ end_from (n + length ks) (end_from n x ks) js
end_append n x [] js = ap (λ (m : ℕ). end_from m x js) (sym (add-zero n))
end_append n x (k ∷ ks) js =
    let e : n + 1 + length ks ≡ n + suc (length ks) = omega arith in
    end_append (n + 1) (ResultOf n) ks js ∙ ap (λ (m : ℕ). end_from m (end_from (n + 1) (ResultOf n) ks) js) e

-- one chain on the result of another
pub chained_then : {old mid new : Draft} {x y z : Operand} {ks js : List Link} → Chained old x ks y mid → Chained mid y js z new → Chained old x (ks ++ js) z new
chained_then {old} {mid} {new} {x} {y} {z} {ks} {js} p q =
    record {
      steps = appended_same (appended_then p.steps q.steps)
          (ap₂ (λ (m : ℕ) (o : Operand). steps_from old.next x ks ++ steps_from m o js) (chained_next p) p.end ∙ sym (steps_append old.next x ks js));
      end = q.end ∙ ap₂ (λ (m : ℕ) (o : Operand). end_from m o js) (chained_next p) p.end ∙ sym (end_append old.next x ks js);
    }

pub chained_same : {old new : Draft} {x y : Operand} {ks js : List Link} → Chained old x ks y new → ks ≡ js → Chained old x js y new
chained_same {old} {new} {x} {y} p same = subst (λ (ls : List Link). Chained old x ls y new) same p
