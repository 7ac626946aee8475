-- Rows that are alike, as a test.
use Rattle.std.proofs.Common.{◌≡◌, ℕ, Bool, true, false, ◌&&◌, Decides, eqb, List, length, get_or, sym, refl, ap, ◌∙◌, ap₂, ⊎_elim, arith}
use Rattle.std.proofs.lemmas.Bool.{both_ways, cases_Bool}
use Rattle.std.proofs.lemmas.Bool.Decides.{Decides-and, Decides-below_and, Decides-eqb, Decides-like, same_from_decides}
use Rattle.std.proofs.lemmas.Slice.Eq.{bytes_eq-Decides}
use Rattle.std.proofs.lemmas.List.{ext_get_or}
use Rattle.std.specs.Str.{bytes_eq}
use denote.Enum.Bare.{sameb}
use Rattle.algebra.specs.Cubes.{Powers, Same, letters}
use Rattle.algebra.specs.Rows.{Alike, Row, divides_test, quotient_row}
use Rattle.algebra.proofs.Degrees.{divides_decides}
use Rattle.cubes.specs.contracts.row.RowPartialEq.TheImpl.{eq-value}
use Rattle.cubes.specs.contracts.row.Sign.{the_type}
use Rattle.cubes.specs.declared.row.Row.{Row as Coded}
use Rattle.cubes.specs.declared.row.Sign.{Sign}
use Rattle.cubes.specs.declared.row.Sign.TheVariants.{Plus, Minus}
use Rattle.cubes.specs.Rows.{as_row, minus}
use Rattle.rewriting.specs.Factor.{product_row}
use Rattle.rewriting.specs.Taking.{alike, same_below, same_sign}

-- the test for likeness
same_decides : (a b : Powers) → Decides (same_below a b letters) (Same a b)
unfolding same_below
same_decides a b = Decides-below_and (λ l. eqb (a l) (b l)) (λ l. a l ≡ b l) (same_below a b) (λ l. Decides-eqb (a l) (b l)) refl (λ n. refl) letters

sign_decides : (x y : Bool) → Decides (same_sign x y) (x ≡ y)
sign_decides true y = ((λ e. sym e), (λ e. sym e))
sign_decides false true = ((λ e. e), (λ e. e))
sign_decides false false = ((λ e. refl), (λ e. refl))

pub alike_decides : (r s : Row) → Decides (alike r s) (Alike r s)
alike_decides r s =
    Decides-like (alike r s) (λ p. record { sign = p.0; cubes = p.1 }) (λ p. (p.sign, p.cubes))
    (Decides-and (same_sign r.negative s.negative) (same_below r.cube s.cube letters) (sign_decides r.negative s.negative) (same_decides r.cube s.cube))

pub alike_first : (x r s : Row) → Alike r s → alike x r ≡ alike x s
alike_first x r s h =
    same_from_decides {P = Alike x s} (alike x r) (alike x s)
    (Decides-like (alike x r)
    (λ p. record { sign = p.sign ∙ h.sign; cubes = λ l k. p.cubes l k ∙ h.cubes l k })
    (λ p. record { sign = p.sign ∙ sym h.sign; cubes = λ l k. p.cubes l k ∙ sym (h.cubes l k) })
    (alike_decides x r))
    (alike_decides x s)

pub alike_second : (x y r : Row) → Alike x y → alike x r ≡ alike y r
alike_second x y r h =
    same_from_decides {P = Alike x r} (alike x r) (alike y r) (alike_decides x r)
    (Decides-like (alike y r)
    (λ p. record { sign = h.sign ∙ p.sign; cubes = λ l k. h.cubes l k ∙ p.cubes l k })
    (λ p. record { sign = sym h.sign ∙ p.sign; cubes = λ l k. sym (h.cubes l k) ∙ p.cubes l k })
    (alike_decides y r))

-- what `==` says of two rows is whether they are alike
same_signs : (s t : Sign) → sameb the_type s t ≡ same_sign (minus s) (minus t)
same_signs Plus Plus = refl
same_signs Plus Minus = refl
same_signs Minus Plus = refl
same_signs Minus Minus = refl

abbrev reads : List ℕ → Powers
reads xs = λ l. get_or xs l 0

same_powers : (xs ys : List ℕ) → length xs ≡ letters → length ys ≡ letters → bytes_eq xs ys ≡ same_below (reads xs) (reads ys) letters
same_powers xs ys n m =
    same_from_decides {P = Same (reads xs) (reads ys)} (bytes_eq xs ys) (same_below (reads xs) (reads ys) letters)
    (Decides-like (bytes_eq xs ys)
    (λ e l h. ap (λ (zs : List ℕ). get_or zs l 0) e)
    (λ s. ext_get_or 0 xs ys (n ∙ sym m) (λ l h. s l (omega (arith, n))))
    (bytes_eq-Decides xs ys))
    (same_decides (reads xs) (reads ys))

turned : (b t : Bool) → (b && t) ≡ (t && b)
turned true true = refl
turned true false = refl
turned false true = refl
turned false false = refl

pub same_rows : (a b : Coded) → length a.cube.powers ≡ letters → length b.cube.powers ≡ letters → eq-value.it a b ≡ alike (as_row a) (as_row b)
same_rows a b n m =
    ap₂ ◌&&◌ (same_powers a.cube.powers b.cube.powers n m) (same_signs a.sign b.sign)
    ∙ turned (same_below (as_row a).cube (as_row b).cube letters) (same_sign (minus a.sign) (minus b.sign))

-- r over c is the column just where r is c times the column
module _ (c : Powers) (r col : Row) where
  pub alike_quotient : divides_test c r.cube ≡ true → alike (quotient_row c r) col ≡ alike r (product_row c col)
  alike_quotient t =
      let d = (divides_decides c r.cube).0 t in
      same_from_decides {P = Alike (quotient_row c r) col} (alike (quotient_row c r) col) (alike r (product_row c col)) (alike_decides (quotient_row c r) col)
      (Decides-like (alike r (product_row c col))
      (λ p. record { sign = p.sign; cubes = λ l k. omega (arith, p.cubes l k, d l k) })
      (λ p. record { sign = p.sign; cubes = λ l k. omega (arith, p.cubes l k, d l k) })
      (alike_decides r (product_row c col)))

  pub alike_divided : divides_test c r.cube ≡ false → alike r (product_row c col) ≡ false
  alike_divided t =
      ⊎_elim
      (λ e. absurd (both_ways (divides_test c r.cube) t ((divides_decides c r.cube).1 (λ l k. omega (arith, ((alike_decides r (product_row c col)).0 e).cubes l k)))))
      (λ e. e) (cases_Bool (alike r (product_row c col)))
