use Rattle.std.proofs.Common.{◌≡◌, ℕ, ◌+◌, List, [], ◌∷◌, ◌++◌, length, option_to_list, replicate, Option, sym, refl, ap, ◌∙◌, append_assoc, arith}
use Rattle.std.proofs.lemmas.List.{length-append, length-replicate, replicate_more}
use Rattle.sheet.specs.declared.operand.Operand.{Operand}
use Rattle.emitter.proofs.Factors.{multiplied_next, multiplied_one, multiplied_same, multiplied_then}
use Rattle.emitter.proofs.draft.Draft.multiply.Goals as goal
use Rattle.emitter.proofs.draft.Draft.multiply.Goals.{in-None, in-Some}

-- one more of the same factor
factor_more : (before : List Operand) (n : ℕ) (f : Operand) → (before ++ replicate n f) ++ f ∷ [] ≡ before ++ replicate (n + 1) f
factor_more before n f = append_assoc before (replicate n f) (f ∷ []) ∙ ap (λ (xs : List Operand). before ++ xs) (replicate_more n f)

pub link-requires : goal.link-requires
link-requires c =
    let before = option_to_list c.args.start in
    let made = replicate c.loop-j._j c.args.factor in
    let n = multiplied_next (before ++ made) c.loop-j.product c.loop-j.invariant in
    let long = c.loop-j.invariant.chain.steps.long in
    let some : length (option_to_list c.loop-j.product) ≡ 1 = ap (λ (p : Option Operand). length (option_to_list p)) c.in-Some.is in
    let whole = length-append before made in
    let part = length-replicate c.loop-j._j c.args.factor in
    omega arith

pub loop-j-preserved : goal.loop-j-preserved
loop-j-preserved c =
    let f = c.args.factor in
    let before = option_to_list c.args.start in
    let j = c.loop-j._j in
    let fs = before ++ replicate j f in
    elim c.match-product.branch [
      | in-None w ↦
          let none = multiplied_same c.loop-j.invariant refl (sym w.in-None.is) refl in
          multiplied_same (multiplied_then fs (f ∷ []) _ none (multiplied_one _ f)) (factor_more before j f) w.product-is w.self-is
      | in-Some w ↦
          let some = multiplied_same c.loop-j.invariant refl (sym w.in-Some.is) refl in
          multiplied_same (multiplied_then fs (f ∷ []) _ some (record { chain = w.link.ensures; some = refl })) (factor_more before j f) w.product-is w.self-is
    ]
