-- Terms with signs, from the first positive one on.
use Rattle.std.proofs.Common.{◌≡◌, ℕ, zero, suc, ◌+◌, ◌-◌, ◌<◌, ◌≤◌, Bool, true, false, cond, not, ltb, List, [], ◌∷◌, ◌++◌, map, length, get_or, take, drop, Some, None, Option, sym, refl, ap, ◌∙◌, subst, ap₂, ⊎_elim, add-one, arith}
use mathlib.Core.List.{map-map}
use Rattle.std.specs.List.{position, position_or_len}
use Rattle.std.proofs.lemmas.List.{length-append, length-map, length-take-le, length-drop, map_more, drop_more, drop_all, take_all}
use Rattle.std.proofs.lemmas.List.Quantifiers.{position-Some}
use Rattle.std.proofs.lemmas.List.Sums.{fails_before_first}
use Rattle.std.proofs.lemmas.Bool.{true≢false, false≢true, not-false, not-true, cases_lt, lt-ltb}
use Rattle.sheet.specs.declared.operand.Operand.{Operand}
use Rattle.sheet.specs.declared.operand.Operand.TheVariants.{Measure, Zero}
use Rattle.sheet.specs.declared.operation.Operation.{Operation}
use Rattle.sheet.specs.declared.operation.Operation.TheVariants.{Add, Sub, Neg}
use Rattle.cubes.specs.declared.row.Sign.TheVariants.{Plus}
use Rattle.cubes.specs.Rows.{minus}
use Rattle.emission.specs.Steps.{Chain, Link, Signed, negated, signed_link, sum_behind, sum_chain}
use Rattle.emitter.specs.declared.sums.Summand.{Summand}
use Rattle.emitter.specs.Terms.{links_by, operands, signed, signed_one}

-- what stands past the last term
abbrev pub no_term : Summand
no_term = record { sign = Plus; operand = Measure 0 }

abbrev pub positive : Summand → Bool
positive t = not (minus t.sign)

sum_negative : (before : List Operand) (t : Signed) (ts : List Signed) → t.0 ≡ true → sum_behind before (t ∷ ts) ≡ sum_behind (before ++ t.1 ∷ []) ts
sum_negative before (true, x) ts h = refl
sum_negative before (false, x) ts h = absurd (false≢true h)

sum_positive : (before : List Operand) (t : Signed) (ts : List Signed) → t.0 ≡ false
    → sum_behind before (t ∷ ts) ≡ record { start = t.1; links = map (λ y. (Sub, y)) before ++ map signed_link ts }
sum_positive before (true, x) ts h = absurd (true≢false h)
sum_positive before (false, x) ts h = refl

-- the terms below i are negative
sum_below : (ts : List Summand) (i : ℕ) → i ≤ length ts → ((k : ℕ) → k < i → positive (get_or ts k no_term) ≡ false)
    → sum_chain (signed ts) ≡ sum_behind (operands (take i ts)) (signed (drop i ts))
sum_below ts zero h below = refl
sum_below ts (suc i) h below =
    let here : i < length ts = omega arith in
    let t = get_or ts i no_term in
    let rest = signed (drop (i + 1) ts) in
    sum_below ts i (omega arith) (λ k b. below k (omega arith))
    ∙ ap (λ (xs : List Summand). sum_behind (operands (take i ts)) (signed xs)) (drop_more ts i no_term here)
    ∙ sum_negative (operands (take i ts)) (signed_one t) rest (not-false (minus t.sign) (below i (omega arith)))
    ∙ ap (λ (os : List Operand). sum_behind os rest) (sym (map_more (λ (s : Summand). s.operand) ts i no_term here))
    ∙ ap (λ (n : ℕ). sum_behind (operands (take n ts)) (signed (drop n ts))) (add-one i)

-- the operation by the sign
abbrev pub by_sign : Summand → Operation
by_sign t = cond (minus t.sign) Sub Add

-- where no term is positive
pub none_chain : (ts : List Summand) → position positive ts ≡ None → sum_chain (signed ts) ≡ negated (operands ts)
none_chain ts none =
    let n = position_or_len positive ts in
    let all : length ts ≤ n = ⊎_elim
    (λ (h : n < length ts). let e : ltb n (length ts) ≡ true = lt-ltb n (length ts) h in let z : cond {A = Option ℕ} true (Some n) None ≡ None = subst (λ (b : Bool). cond b (Some n) None ≡ None) e none in absurd (cc))
    (λ (h : length ts ≤ n). h)
    (cases_lt n (length ts)) in
    sum_below ts (length ts) (omega arith) (λ k h. fails_before_first positive ts k no_term (omega arith))
    ∙ ap₂ (λ (xs ys : List Summand). sum_behind (operands xs) (signed ys)) (take_all (length ts) ts (omega arith)) (drop_all (length ts) ts (omega arith))

-- where the first positive one stands at p
pub record FirstAt (ts : List Summand) (p : ℕ) : Type 0 where
  pub within : p < length ts
  pub chain : sum_chain (signed ts) ≡ record { start = (get_or ts p no_term).operand; links = links_by (λ _. Sub) (take p ts) ++ links_by by_sign (drop (p + 1) ts) }

pub first_at : (ts : List Summand) (p : ℕ) → position positive ts ≡ Some p → FirstAt ts p
first_at ts p first =
    let is = position-Some positive ts p no_term first in
    let t = get_or ts p no_term in
    record {
      within = is.0;
      chain = sum_below ts p (omega (arith, is.0)) is.2
          ∙ ap (λ (xs : List Summand). sum_behind (operands (take p ts)) (signed xs)) (drop_more ts p no_term is.0)
          ∙ sum_positive (operands (take p ts)) (signed_one t) (signed (drop (p + 1) ts)) (not-true (minus t.sign) is.1)
          ∙ ap₂ {C = Chain} (λ (ks js : List Link). record { start = t.operand; links = ks ++ js })
          (map-map (λ (y : Operand). (Sub, y)) (λ (s : Summand). s.operand) (take p ts))
          (map-map signed_link signed_one (drop (p + 1) ts));
    }

pub links_length : (of : Summand → Operation) (ts : List Summand) → length (links_by of ts) ≡ length ts
links_length of ts = length-map {B = Link} ts (λ t. (of t, t.operand))

pub negated_some : (t : Summand) (ts : List Summand) → negated (operands (t ∷ ts)) ≡ record { start = t.operand; links = links_by (λ _. Add) ts ++ (Neg, Zero) ∷ [] }
negated_some t ts =
    ap {B = Chain} (λ (ks : List Link). record { start = t.operand; links = ks ++ (Neg, Zero) ∷ [] }) (map-map (λ (y : Operand). (Add, y)) (λ (s : Summand). s.operand) ts)

pub negated_length : (ts : List Summand) → length (negated (operands ts)).links ≡ length ts
negated_length [] = refl
negated_length (t ∷ ts) =
    let links = links_by (λ _. Add) ts in
    ap (λ (k : Chain). length k.links) (negated_some t ts) ∙ length-append links ((Neg, Zero) ∷ []) ∙ ap (λ (n : ℕ). n + 1) (links_length (λ _. Add) ts) ∙ add-one (length ts)

pub first_length : (ts : List Summand) (p : ℕ) → FirstAt ts p → length (sum_chain (signed ts)).links ≡ p + (length ts - (p + 1))
first_length ts p f =
    let before = links_by (λ _. Sub) (take p ts) in
    let behind = links_by by_sign (drop (p + 1) ts) in
    let h = f.within in
    ap (λ (k : Chain). length k.links) f.chain ∙ length-append before behind
    ∙ ap₂ (λ (i j : ℕ). i + j) (links_length (λ _. Sub) (take p ts) ∙ length-take-le p ts (omega arith)) (links_length by_sign (drop (p + 1) ts) ∙ length-drop (p + 1) ts)
