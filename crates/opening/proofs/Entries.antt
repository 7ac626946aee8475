-- What the checks by the table say of the book, and the table with one term more.
use Rattle.std.proofs.Common.{◌≡◌, ℕ, ◌+◌, ◌<◌, Bool, true, false, cond, ltb, leb, List, [], ◌∷◌, ◌++◌, map, length, take, sym, refl, ap, ◌∙◌, subst, ap₂, inr, ⊎_elim, arith}
use Rattle.std.specs.List.{AllZip}
use Rattle.std.proofs.lemmas.List.Elements.{AllZip-push, length_all_zip}
use Rattle.std.proofs.lemmas.List.{append-nil, length-map, length_push, map_push}
use Rattle.std.proofs.lemmas.Bool.{cases_Bool, cases_eq, cond-false, cond-true, le-leb, le-ltb, lt-leb, lt-ltb}
use Rattle.algebra.specs.Cubes.{Powers as CubePowers, Same}
use Rattle.algebra.specs.Rows.{Alike, Row as WrittenRow}
use Rattle.cubes.specs.Powers.{power}
use Rattle.cubes.specs.Rows.{as_row, as_rows, minus}
use Rattle.cubes.specs.Rows.{Holds as HoldsCube}
use Rattle.cubes.specs.declared.expression.Expression.{Expression}
use Rattle.cubes.specs.declared.row.Row.{Row}
use Rattle.rewriting.specs.Book.{Term, accepted, has_cube, is_negative, magnitude, numerals_of, refusal, under, with_numeral, written_row}
use Rattle.rewriting.specs.Styles.{equal}
use Rattle.rewriting.proofs.Books.{all_under, gathered_push, sound_accepted, under_push}
use Rattle.rewriting.proofs.Firsts.{Fine, all_fine}
use Rattle.rewriting.proofs.Parts.{equal_apart, equal_refl}
use Rattle.sheet.specs.Numerals.{numerals_list}
use Rattle.table.specs.declared.table.Table.{Table}
use Rattle.table.specs.Of.{rows_at}
use Rattle.opening.specs.Checks.{Admissible}
use Rattle.opening.specs.Holding.{Holds}
use Rattle.opening.specs.Numbers.{enter_refusal_number}
use Rattle.opening.specs.Room.{Lacks, NumeralsSet, Room, RowAdded}
use Rattle.opening.specs.declared.refusal.EnterRefusal.{EnterRefusal}
use Rattle.opening.specs.declared.refusal.EnterRefusal.TheVariants.{Formula, Coefficient, Powers, Degree, DoubleCube, FullFormula, FullStyle, NinthNumeral}
use Rattle.opening.proofs.Doubles.{has_holds, holds_has, same_cube}
use Rattle.opening.proofs.Refusals.{admissible_refusal}
use Rattle.table.proofs.Looks.{rows_in}
use Rattle.opening.proofs.Written.{written_all, written_with}

-- the noted terms are those accepted, t passes the first checks, and `cube` is its cube
module _ (offered : List Term) (tab : Table) (terms : ℕ) (h : Holds (accepted offered) tab terms) (t : Term) (a : Admissible t)
    (cube : CubePowers) (is : Same cube (written_row (numerals_list tab.numerals) t).cube) where
  abbrev noted : List Term
  noted = accepted offered

  abbrev ns : List ℕ
  ns = numerals_of noted

  abbrev mine : List Term
  mine = under t.formula noted

  abbrev rows : List Row
  rows = rows_at tab t.formula

  cube_is : Same cube (written_row ns t).cube
  cube_is = subst (λ (xs : List ℕ). Same cube (written_row xs t).cube) (sym h.like.numerals) is

  each : AllZip Alike (map (written_row ns) mine) (as_rows rows)
  each = h.like.rows t.formula (omega (arith, a.formula))

  length_rows : length rows ≡ length mine
  length_rows = sym (length-map rows as_row) ∙ sym (length_all_zip Alike (map (written_row ns) mine) (as_rows rows) each) ∙ length-map mine (written_row ns)

  there : HoldsCube rows cube → has_cube mine t ≡ true
  there q =
      let s = sound_accepted offered in
      holds_has ns t cube cube_is (Fine noted s) (same_cube noted s t a) mine rows (all_under (Fine noted s) t.formula noted (all_fine noted s)) each q.0 q.1 q.2

  free : (HoldsCube rows cube → ⊥) → has_cube mine t ≡ false
  free f = ⊎_elim (λ q. absurd (f (has_holds ns t cube cube_is mine rows each q))) (λ q. q) (cases_Bool (has_cube mine t))

  -- each check in turn
  no_double : (HoldsCube rows cube → ⊥) → refusal noted t ≡ cond (leb 8 (length mine)) 6 (cond (leb 80 (length noted)) 7 (cond (ltb 8 (length (with_numeral ns (magnitude t)))) 8 0))
  no_double f = admissible_refusal noted t a ∙ cond-false (has_cube mine t) 5 _ (free f)

  room_in_formula : (HoldsCube rows cube → ⊥) → length rows < 8 → refusal noted t ≡ cond (leb 80 (length noted)) 7 (cond (ltb 8 (length (with_numeral ns (magnitude t)))) 8 0)
  room_in_formula f g = no_double f ∙ cond-false (leb 8 (length mine)) 6 _ (lt-leb 8 (length mine) (omega (arith, length_rows)))

  room_in_style : (HoldsCube rows cube → ⊥) → length rows < 8 → terms < 80 → refusal noted t ≡ cond (ltb 8 (length (with_numeral ns (magnitude t)))) 8 0
  room_in_style f g k = room_in_formula f g ∙ cond-false (leb 80 (length noted)) 7 _ (lt-leb 80 (length noted) (omega (arith, h.count)))

  numerals_long : length (with_numeral ns (magnitude t)) ≡ length (with_numeral (numerals_list tab.numerals) (magnitude t))
  numerals_long = ap (λ (xs : List ℕ). length (with_numeral xs (magnitude t))) h.like.numerals

  pub lacks_refused : (why : EnterRefusal) → Lacks why rows cube terms (numerals_list tab.numerals) (magnitude t) → enter_refusal_number why ≡ refusal noted t
  lacks_refused Formula l = absurd l
  lacks_refused Coefficient l = absurd l
  lacks_refused Powers l = absurd l
  lacks_refused Degree l = absurd l
  lacks_refused DoubleCube l = sym (admissible_refusal noted t a ∙ cond-true (has_cube mine t) 5 _ (there l))
  lacks_refused FullFormula l = sym (no_double l.0 ∙ cond-true (leb 8 (length mine)) 6 _ (le-leb 8 (length mine) (omega (arith, length_rows, l.1))))
  lacks_refused FullStyle l = sym (room_in_formula l.0 l.1 ∙ cond-true (leb 80 (length noted)) 7 _ (le-leb 80 (length noted) (omega (arith, h.count, l.2))))
  lacks_refused NinthNumeral l =
      sym (room_in_style l.0 l.1 l.2 ∙ cond-true (ltb 8 (length (with_numeral ns (magnitude t)))) 8 0 (lt-ltb 8 _ (omega (arith, numerals_long, l.3))))

  pub room_taken : Room rows cube terms (numerals_list tab.numerals) (magnitude t) → 0 ≡ refusal noted t
  room_taken r =
      sym (room_in_style r.fresh r.formula r.style ∙ cond-false (ltb 8 (length (with_numeral ns (magnitude t)))) 8 0 (le-ltb 8 _ (omega (arith, numerals_long, r.numerals))))

  -- the table with t's row and numeral
  module _ (row : Row) (sign : minus row.sign ≡ is_negative t) (own : Same (power row.cube) cube) (tab₁ tab₂ : Table)
      (added : RowAdded tab t.formula row tab₁) (held : NumeralsSet tab₁ (with_numeral (numerals_list tab₁.numerals) (magnitude t)) tab₂) where
    abbrev ns' : List ℕ
    ns' = with_numeral ns (magnitude t)

    rows_old : (e : ℕ) → e < 16 → AllZip Alike (map (written_row ns') (under e noted)) (as_rows (rows_at tab e))
    rows_old e l =
        subst (λ (xs : List WrittenRow). AllZip Alike xs (as_rows (rows_at tab e)))
        (sym (written_all ns (magnitude t) (under e noted) (all_under _ e noted (sound_accepted offered).held)))
        (h.like.rows e l)

    row_new : Alike (written_row ns' t) (as_row row)
    row_new = record {
      sign = sym sign;
      cubes = λ l z. ap (λ (r : WrittenRow). r.cube l) (written_with ns (magnitude t) t (inr (inr refl))) ∙ sym (cube_is l z) ∙ sym (own l z);
    }

    rows_here : AllZip Alike (map (written_row ns') (mine ++ t ∷ [])) (as_rows (rows ++ row ∷ []))
    rows_here =
        subst (λ (xs : List WrittenRow). AllZip Alike xs (as_rows (rows ++ row ∷ []))) (sym (map_push (written_row ns') mine t))
        (subst (λ (xs : List WrittenRow). AllZip Alike (map (written_row ns') mine ++ written_row ns' t ∷ []) xs) (sym (map_push as_row rows row))
        (AllZip-push Alike (map (written_row ns') mine) (as_rows rows) (written_row ns' t) (as_row row) (rows_old t.formula (omega (arith, a.formula))) row_new))

    under_more : (e : ℕ) (b : Bool) → equal e t.formula ≡ b → under e (noted ++ t ∷ []) ≡ under e noted ++ cond b (t ∷ []) []
    under_more e b q = under_push e noted t ∙ ap (λ (v : Bool). under e noted ++ cond v (t ∷ []) []) q

    rows_now : (e : ℕ) → e < 16 → AllZip Alike (map (written_row ns') (under e (noted ++ t ∷ []))) (as_rows (rows_at tab₁ e))
    rows_now e l = ⊎_elim here elsewhere (cases_eq e t.formula)
      where
        here : e ≡ t.formula → AllZip Alike (map (written_row ns') (under e (noted ++ t ∷ []))) (as_rows (rows_at tab₁ e))
        here q =
            subst (λ (n : ℕ). AllZip Alike (map (written_row ns') (under n (noted ++ t ∷ []))) (as_rows (rows_at tab₁ n))) (sym q)
            (subst (λ (us : List Term). AllZip Alike (map (written_row ns') us) (as_rows (rows_at tab₁ t.formula))) (sym (under_more t.formula true (equal_refl t.formula)))
            (subst (λ (xs : List Row). AllZip Alike (map (written_row ns') (mine ++ t ∷ [])) (as_rows xs)) (sym added.here) rows_here))

        elsewhere : (e ≡ t.formula → ⊥) → AllZip Alike (map (written_row ns') (under e (noted ++ t ∷ []))) (as_rows (rows_at tab₁ e))
        elsewhere q =
            subst (λ (us : List Term). AllZip Alike (map (written_row ns') us) (as_rows (rows_at tab₁ e))) (sym (under_more e false (equal_apart e t.formula q) ∙ append-nil (under e noted)))
            (subst (λ (xs : List Row). AllZip Alike (map (written_row ns') (under e noted)) (as_rows xs)) (sym (added.elsewhere e q)) (rows_old e l))

    numerals_now : numerals_of (noted ++ t ∷ []) ≡ ns'
    numerals_now = gathered_push [] noted t

    pub entered : Holds (noted ++ t ∷ []) tab₂ (terms + 1)
    entered = record {
      like = record {
        numerals = numerals_now ∙ ap (λ (xs : List ℕ). with_numeral xs (magnitude t)) (h.like.numerals ∙ ap numerals_list (sym added.numerals)) ∙ sym held.numerals;
        parts = h.like.parts ∙ sym (held.parts ∙ added.parts);
        rows = λ e l.
            subst (λ (xs : List ℕ). AllZip Alike (map (written_row xs) (under e (noted ++ t ∷ []))) (as_rows (rows_at tab₂ e))) (sym numerals_now)
            (subst (λ (es : List Expression). AllZip Alike (map (written_row ns') (under e (noted ++ t ∷ []))) (as_rows (rows_in es e))) (sym held.expressions) (rows_now e l));
      };
      order = ap₂ (λ (n : ℕ) (xs : List ℕ). take (16 + n) xs) (held.parts ∙ added.parts) (held.order ∙ added.order) ∙ h.order;
      count = ap (λ (n : ℕ). n + 1) h.count ∙ sym (length_push noted t);
    }
