-- What enter answers and leaves, by the way it went.
use Rattle.std.proofs.Common.{◌≡◌, ℕ, ◌+◌, List, [], ◌∷◌, ◌++◌, get_or, Ok, Err, Result, sym, refl, ap, ◌∙◌, subst, subst₂}
use mathlib.Core.Logic.{∥∥₁_map}
use Rattle.algebra.specs.Cubes.{Same, product}
use Rattle.cubes.specs.Powers.{power}
use Rattle.cubes.specs.Rows.{minus}
use Rattle.cubes.specs.declared.cube.Cube.{Cube}
use Rattle.cubes.specs.declared.row.Sign.{Sign}
use Rattle.rewriting.specs.Book.{Term, accepted, is_negative, place, refusal, with_numeral, written_row}
use Rattle.sheet.specs.Numerals.{numerals_list}
use Rattle.table.specs.declared.table.Table.{Table}
use Rattle.table.specs.Of.{rows_at}
use Rattle.opening.specs.Checks.{Passes}
use Rattle.opening.specs.Holding.{Holds, HoldsAccepted}
use Rattle.opening.specs.Numbers.{enter_number, enter_refusal_number}
use Rattle.opening.specs.Room.{Lacks, NumeralsSet, Room, RowAdded, numeral_cube}
use Rattle.opening.specs.Styles.{Entered, HasNoted}
use Rattle.opening.specs.declared.refusal.EnterRefusal.{EnterRefusal}
use Rattle.opening.specs.declared.style.OpenStyle.{OpenStyle}
use Rattle.opening.proofs.Entries.{entered, lacks_refused, room_taken}
use Rattle.opening.proofs.Written.{accepted_more, accepted_same}

-- a refusal
pub refused : (s : OpenStyle) (t : Term) (r : Result (Unit {0}) EnterRefusal) (why : EnterRefusal) → r ≡ Err why
    → ((offered : List Term) → HasNoted (accepted offered) s → enter_refusal_number why ≡ refusal (accepted offered) t) → Entered s t r s
refused s t r why e f = record {
  answer = λ offered h. ap enter_number e ∙ f offered h;
  held = λ offered h. subst (λ (ts : List Term). HasNoted ts s) (sym (accepted_same offered t why (f offered h))) h;
  same = λ _ _. refl;
}

-- the checks of the term are passed, and these are its magnitude, its numeral's place and its cube
module _ (s : OpenStyle) (t : Term) (m p : ℕ) (qs : List ℕ) (passed : Passes t m qs) (at : p ≡ place (numerals_list s.table.numerals) m)
    (cube : Cube) (made : Same (power cube) (product (numeral_cube m p) (λ l. get_or qs l 0))) where
  abbrev ns : List ℕ
  ns = numerals_list s.table.numerals

  cube_is : Same (power cube) (written_row ns t).cube
  cube_is =
      subst₂ (λ (n q : ℕ). Same (power cube) (product (numeral_cube n q) (λ l. get_or t.powers l 0))) passed.size (at ∙ ap (place ns) passed.size)
      (subst (λ (ps : List ℕ). Same (power cube) (product (numeral_cube m p) (λ l. get_or ps l 0))) passed.powers made)

  pub lacking : (r : Result (Unit {0}) EnterRefusal) (why : EnterRefusal) → r ≡ Err why → Lacks why (rows_at s.table t.formula) (power cube) s.terms ns m → Entered s t r s
  lacking r why e l =
      refused s t r why e
      (λ offered h. lacks_refused offered s.table s.terms h t passed.admissible (power cube) cube_is why (subst (Lacks why (rows_at s.table t.formula) (power cube) s.terms ns) passed.size l))

  module _ (room : Room (rows_at s.table t.formula) (power cube) s.terms ns m) (sign : Sign) (signed : minus sign ≡ is_negative t) (tab₁ tab₂ : Table)
      (added : RowAdded s.table t.formula (record { cube = cube; sign = sign }) tab₁) (set : NumeralsSet tab₁ (with_numeral (numerals_list tab₁.numerals) m) tab₂) where
    zero_refusal : (offered : List Term) → HasNoted (accepted offered) s → 0 ≡ refusal (accepted offered) t
    zero_refusal offered h = room_taken offered s.table s.terms h t passed.admissible (power cube) cube_is (subst (Room (rows_at s.table t.formula) (power cube) s.terms ns) passed.size room)

    holds_next : (offered : List Term) → HasNoted (accepted offered) s → Holds (accepted (offered ++ t ∷ [])) tab₂ (s.terms + 1)
    holds_next offered h =
        subst (λ (ts : List Term). Holds ts tab₂ (s.terms + 1)) (sym (accepted_more offered t (zero_refusal offered h)))
        (entered offered s.table s.terms h t passed.admissible (power cube) cube_is (record { cube = cube; sign = sign }) signed (λ l _. refl) tab₁ tab₂ added
        (subst (λ (n : ℕ). NumeralsSet tab₁ (with_numeral (numerals_list tab₁.numerals) n) tab₂) passed.size set))

    pub noted_next : ∥ HoldsAccepted tab₂ (s.terms + 1) ∥₁
    noted_next = ∥∥₁_map s.noted (λ w. (w.0 ++ t ∷ [], holds_next w.0 w.1))

    pub taken : (s' : OpenStyle) → s'.table ≡ tab₂ → s'.terms ≡ s.terms + 1 → Entered s t (Ok tt) s'
    taken s' e f = record {
      answer = zero_refusal;
      held = λ offered h. subst₂ (Holds (accepted (offered ++ t ∷ []))) (sym e) (sym f) (holds_next offered h);
      same = λ why q. absurd (cc);
    }
