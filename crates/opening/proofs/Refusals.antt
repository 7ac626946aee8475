-- Which refusal it is, by the first condition that holds.
use Rattle.std.proofs.Common.{◌≡◌, ℕ, cond, not, ◌||◌, eqb, ltb, leb, List, length, ◌∙◌, arith}
use Rattle.std.proofs.lemmas.Bool.{cond-false, le-ltb, eq-eqb, ne_eqb, or_from, not_from_true}
use Rattle.rewriting.specs.Book.{Term, has_cube, magnitude, numerals_of, refusal, under, with_numeral}
use Rattle.opening.specs.Checks.{Admissible, power_sum}

-- the refusals that what is noted decides
abbrev pub by_noted : List Term → Term → ℕ
by_noted noted t =
    cond (has_cube (under t.formula noted) t) 5
    (cond (leb 8 (length (under t.formula noted))) 6
    (cond (leb 80 (length noted)) 7
    (cond (ltb 8 (length (with_numeral (numerals_of noted) (magnitude t)))) 8 0)))

module _ (noted : List Term) (t : Term) where
  pub admissible_refusal : Admissible t → refusal noted t ≡ by_noted noted t
  admissible_refusal a =
      cond-false (ltb 15 t.formula) 1 _ (le-ltb 15 t.formula a.formula)
      ∙ cond-false (eqb (magnitude t) 0 || ltb 65535 (magnitude t)) 2 _ (or_from _ _ (ne_eqb (magnitude t) 0 (λ e. omega (arith, a.some))) (le-ltb 65535 (magnitude t) a.small))
      ∙ cond-false (not (eqb (length t.powers) 8)) 3 _ (not_from_true _ (eq-eqb (length t.powers) 8 a.eight))
      ∙ cond-false (ltb 24 (power_sum t.powers)) 4 _ (le-ltb 24 (power_sum t.powers) a.light)
