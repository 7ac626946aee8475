use Rattle.std.proofs.Common.{◌≡◌, ℕ, List, inl, inr, refl, subst, rules}
use Rattle.sheet_file.specs.Reading.{Version, NumeralsPair, StepsPair, BrokenLayout}
use Rattle.sheet_file.proofs.layout.pairs.read_layout.Goals as goal

pub returns-in_err-used : goal.returns-in_err-used
returns-in_err-used c =
    let file = c.args.file.now in
    let held = c.in_ok-held.held in
    let version : Version file = search rules in
    let same : c.in_ok-header.header.file.now ≡ file = search rules in
    let numerals : NumeralsPair c.in_ok-header.header.file.now held = search rules in
    let none : (u : ℕ) → StepsPair c.in_ok-header.header.file.now held u → ⊥ = search rules in
    let broken : BrokenLayout file 5 = inr (inr (inl (refl, version, (held, subst (λ (xs : List ℕ). NumeralsPair xs held) same numerals, subst (λ (xs : List ℕ). (u : ℕ) → StepsPair xs held u → ⊥) same none)))) in
    search rules
