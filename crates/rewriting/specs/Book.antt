-- The term book: which terms are accepted, by the terms offered alone; what they are worth, and the style that they make.
use Rattle.std.specs.Prelude.{ℕ, suc, ◌+◌, Bool, true, false, cond, not, ◌&&◌, ◌||◌, List, [], ◌∷◌, ◌++◌, map, length, ℤ, ◌==◌, nat_le, nat_lt, slice_index, unsigned_abs}
use Rattle.std.specs.Int.Signed.{non_neg}
use Rattle.ring.specs.Ring.{CommRing, ones_sum}
use Rattle.algebra.specs.Cubes.{letter, product, unit}
use Rattle.algebra.specs.Rows.{Row}
use Rattle.algebra.specs.Sums.{adding, counting, multiplying, repeated, total, up_to}
use Rattle.rewriting.specs.Styles.{Style, equal}

-- what enter is given
pub record Term : Type 0 where
  pub formula : ℕ
  pub coefficient : ℤ
  pub powers : List ℕ

abbrev pub magnitude : Term → ℕ
magnitude t = unsigned_abs t.coefficient

abbrev pub is_negative : Term → Bool
is_negative t = not (non_neg t.coefficient)

-- the terms of formula e, in order
abbrev pub under : ℕ → List Term → List Term
under e [] = []
under e (t ∷ ts) = cond (equal e t.formula) (t ∷ under e ts) (under e ts)

abbrev pub same_powers : List ℕ → List ℕ → Bool
same_powers [] [] = true
same_powers [] (q ∷ qs) = false
same_powers (p ∷ ps) [] = false
same_powers (p ∷ ps) (q ∷ qs) = p == q && same_powers ps qs

-- whether one of the terms has t's powers and magnitude
abbrev pub has_cube : List Term → Term → Bool
has_cube [] t = false
has_cube (u ∷ us) t = (same_powers u.powers t.powers && magnitude u == magnitude t) || has_cube us t

-- the numerals: the magnitudes above one, by first entry
abbrev pub holds : List ℕ → ℕ → Bool
holds [] m = false
holds (n ∷ ns) m = n == m || holds ns m

abbrev pub with_numeral : List ℕ → ℕ → List ℕ
with_numeral ns m = cond (nat_lt m 2 || holds ns m) ns (ns ++ m ∷ [])

abbrev pub gathered : List ℕ → List Term → List ℕ
gathered ns [] = ns
gathered ns (t ∷ ts) = gathered (with_numeral ns (magnitude t)) ts

abbrev pub numerals_of : List Term → List ℕ
numerals_of noted = gathered [] noted

-- the number with which t is refused by what is noted, or 0
abbrev pub refusal : List Term → Term → ℕ
refusal noted t =
    cond (nat_lt 15 t.formula) 1
    (cond (magnitude t == 0 || nat_lt 65535 (magnitude t)) 2
    (cond (not (length t.powers == 8)) 3
    (cond (nat_lt 24 (total counting (λ p. p) t.powers)) 4
    (cond (has_cube (under t.formula noted) t) 5
    (cond (nat_le 8 (length (under t.formula noted))) 6
    (cond (nat_le 80 (length noted)) 7
    (cond (nat_lt 8 (length (with_numeral (numerals_of noted) (magnitude t)))) 8 0)))))))

-- what is noted after some terms more; and the accepted terms
abbrev pub book : List Term → List Term → List Term
book noted [] = noted
book noted (t ∷ ts) = book (cond (refusal noted t == 0) (noted ++ t ∷ []) noted) ts

abbrev pub accepted : List Term → List Term
accepted ts = book [] ts

-- a term's value: as many ones as its magnitude, times each measure as often as its power says; and a formula's
module _ {S : Type 0} (c : CommRing S) (measures : ℕ → S) where
  abbrev pub size_value : Term → S
  size_value t = c.times (ones_sum c (magnitude t)) (up_to (multiplying c) 8 (λ l. repeated (multiplying c) (measures l) (slice_index t.powers l)))

  abbrev pub term_value : Term → S
  term_value t = cond (is_negative t) (c.opposite (size_value t)) (size_value t)

  abbrev pub formula_value : List Term → S
  formula_value ts = total (adding c) term_value ts

-- the place of a numeral (the like of it over rows is with what takes columns)
abbrev pub place : List ℕ → ℕ → ℕ
place [] m = 0
place (n ∷ ns) m = cond (n == m) 0 (suc (place ns m))

-- written out: a term is one row, a formula one expression
abbrev pub written_row : List ℕ → Term → Row
written_row ns t = record {
  negative = is_negative t;
  cube = product (cond (nat_lt (magnitude t) 2) unit (letter (8 + place ns (magnitude t)))) (λ l. slice_index t.powers l);
}

abbrev pub written : List Term → Style
written noted = record { numerals = numerals_of noted; parts = 0; expression = λ e. map (written_row (numerals_of noted)) (under e noted) }
