use Rattle.std.proofs.Common.{◌≡◌, ℕ, true, false, Some, None, Option, rules, tests, sym, refl, ap, ◌∙◌, subst}
use Rattle.std.proofs.lemmas.Iterator.{YieldsList-from_slice}
use Rattle.std.proofs.lemmas.Iterator.Search.{position_from_yields_List}
use Rattle.std.proofs.lemmas.Bool.{cond_both}
use Rattle.std.specs.List.{position}
use Rattle.rewriting.specs.Taking.{alike, found, spot}
use Rattle.dealing.specs.Naming.{entry_row, named_rows}
use Rattle.dealing.proofs.Lookings.{place_is}
use Rattle.dealing.proofs.names.Names.find.Goals as goal

pub returns : goal.returns
returns c =
    let rows = named_rows c.args.self.now in
    let r = entry_row c.args.sought.now in
    let at : c.position.result ≡ position (λ x. alike (entry_row x) r) c.as_slice.result.now =
    position_from_yields_List (λ x. alike (entry_row x) r) _ _ c.position.result c.position.ensures.ran (YieldsList-from_slice c.as_slice.result.now cc) (λ x b q k. search (rules, tests)) in
    let Told : Option ℕ → Type 0 = λ o. elim o [ Some n ↦ (found rows r ≡ true) × (n ≡ spot rows r) | None ↦ found rows r ≡ false ] in
    subst Told (sym (at ∙ ap (position (λ x. alike (entry_row x) r)) c.as_slice.ensures.value ∙ place_is _ r))
    (cond_both (found rows r) (Some (spot rows r)) None Told (λ e. (e, refl)) (λ e. e))
