use Rattle.std.proofs.Common.{◌≡◌, ℕ, ◌+◌, ◌^◌, ◌<◌, Bool, cond, List, length, get_or, take, sym, ap, ◌∙◌, subst, arith}
use Rattle.std.proofs.lemmas.List.{take_all, length-take}
use Rattle.std.proofs.lemmas.List.Sums.{sum_by_more, count_by-le-length}
use Rattle.sheet.specs.declared.step.Step.{Step}
use Rattle.sheet.specs.declared.operation.Operation.{Operation}
use Rattle.sheet.specs.Counting.{Counted, how_many, multiplies, adds, negates}
use Rattle.sheet.proofs.counts.Counts.of.Goals as goal

-- a count with one step more
one_more : (test : Operation → Bool) (steps : List Step) (i m n : ℕ) (d : Step) → i < length steps → m ≡ how_many test (take i steps) → n ≡ m + cond (test (get_or steps i d).operation) 1 0 → n ≡ how_many test (take (i + 1) steps)
one_more test steps i m n d within before after =
    let more = sum_by_more (λ (s : Step). cond (test s.operation) 1 0) steps i d within in
    after ∙ ap (λ (k : ℕ). k + cond (test (get_or steps i d).operation) 1 0) before ∙ sym more

-- no count passes the number of steps
below : (test : Operation → Bool) (steps : List Step) (i m bound : ℕ) → m ≡ how_many test (take i steps) → i < length steps → length steps < bound → m < bound
below test steps i m bound e within long =
    let all = count_by-le-length (λ (s : Step). test s.operation) (take i steps) in
    let part = length-take i steps in
    omega arith

pub with-counts-requires : goal.with-counts-requires
with-counts-requires c =
    let long : length c.args.steps.now < 2 ^ 63 = omega arith in
    let bound = λ (test : Operation → Bool) (m : ℕ) (e : m ≡ how_many test (take c.loop-step.step-index c.args.steps.now)). below test c.args.steps.now c.loop-step.step-index m (2 ^ 63) e c.loop-step-test.true long in
    let b = c.loop-step.invariant in
    record { multiplications = bound multiplies _ b.multiplications; additions = bound adds _ b.additions; negations = bound negates _ b.negations }

pub loop-step-preserved : goal.loop-step-preserved
loop-step-preserved c =
    let steps = c.args.steps.now in
    let i = c.loop-step.step-index in
    let e = c.with-counts.ensures in
    let b = c.loop-step.invariant in
    record {
      multiplications = one_more multiplies steps i _ _ _ c.loop-step-test.true b.multiplications e.multiplications;
      additions = one_more adds steps i _ _ _ c.loop-step-test.true b.additions e.additions;
      negations = one_more negates steps i _ _ _ c.loop-step-test.true b.negations e.negations;
    }

pub returns : goal.returns
returns c = subst (λ (xs : List Step). Counted xs c.loop-step.counts) (take_all c.loop-step.step-index c.args.steps.now c.loop-step-test.false) c.loop-step.invariant
