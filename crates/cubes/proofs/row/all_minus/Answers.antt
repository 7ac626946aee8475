use Rattle.std.proofs.Common.{◌≡◌, ℕ, ◌<◌, ◌&&◌, true, false, Bool, List, [], ◌∷◌, length, get_or, sym, refl, ap, ◌∙◌, inl, inr, rules}
use Rattle.std.specs.List.{list_all, AllPass}
use Rattle.std.proofs.lemmas.Bool.{cases_Bool}
use Rattle.std.proofs.lemmas.List.Sums.{list_all-from_AllPass}
use Rattle.std.proofs.lemmas.List.Folds.{list_all_at}
use Rattle.algebra.specs.Counts.{all_negative}
use Rattle.cubes.specs.Rows.{as_rows, minus, no_row}
use Rattle.cubes.specs.declared.row.Row.{Row}
use Rattle.cubes.proofs.row.all_minus.Goals as goal

negatives : (xs : List Row) → list_all (λ x. minus x.sign) xs ≡ all_negative (as_rows xs)
negatives [] = refl
negatives (x ∷ xs) = ap (λ (b : Bool). minus x.sign && b) (negatives xs)

pub returns : goal.returns
returns c =
    let xs = c.args.rows.now in
    let yes : c.all.result ≡ true → AllPass (λ x. minus x.sign) xs = search rules in
    let no : c.all.result ≡ false → (k : ℕ) × (k < length xs) × (minus (get_or xs k no_row).sign ≡ false) = search rules in
    elim (cases_Bool c.all.result) [
      | inl t ↦ t ∙ sym (list_all-from_AllPass (λ x. minus x.sign) xs (yes t)) ∙ negatives xs
      | inr f ↦ let n = no f in f ∙ sym (list_all_at (λ x. minus x.sign) xs n.0 no_row n.1 n.2) ∙ negatives xs
    ]
