-- Laws of cubes and of their degrees, and the test of division.
use Rattle.std.proofs.Common.{◌≡◌, ℕ, ◌+◌, ◌<◌, ◌≤◌, Bool, cond, leb, Decides, sym, refl, ap, ◌∙◌, ⊎_elim, arith}
use Rattle.std.proofs.lemmas.Bool.{cases_order, eq-eqb, ne_eqb, leb-true, le-leb}
use Rattle.std.proofs.lemmas.Bool.Decides.{Decides-below_and}
use Rattle.algebra.specs.Cubes.{letters, Powers, Same, Divides, Before, unit, letter, product, quotient, common}
use Rattle.algebra.specs.Sums.{counting}
use Rattle.algebra.specs.Rows.{degree, divides_below, divides_test}
use Rattle.algebra.proofs.Sums.{up_to_same, up_to_join, up_to_neutral, up_to_one, up_to_le, up_to_part}

-- powers of a letter
pub letter_own : (j : ℕ) → letter j j ≡ 1
letter_own j = ap (λ (t : Bool). cond t 1 0) (eq-eqb j j refl)

pub letter_other : (j l : ℕ) → (l ≡ j → ⊥) → letter j l ≡ 0
letter_other j l h = ap (λ (t : Bool). cond t 1 0) (ne_eqb l j h)

-- sameness and division
pub same_refl : (a : Powers) → Same a a
same_refl a l h = refl

pub same_sym : (a b : Powers) → Same a b → Same b a
same_sym a b s l h = sym (s l h)

pub same_trans : (a b c : Powers) → Same a b → Same b c → Same a c
same_trans a b c s t l h = s l h ∙ t l h

pub divides_refl : (a : Powers) → Divides a a
divides_refl a l h = omega arith

pub divides_trans : (a b c : Powers) → Divides a b → Divides b c → Divides a c
divides_trans a b c p q l h = omega (arith, p l h, q l h)

pub divides_both : (a b : Powers) → Divides a b → Divides b a → Same a b
divides_both a b p q l h = omega (arith, p l h, q l h)

pub product_quotient : (a b : Powers) → Divides a b → Same (product (quotient b a) a) b
product_quotient a b p l h = omega (arith, p l h)

pub common_divides : (a b : Powers) → Divides (common a b) a × Divides (common a b) b
common_divides a b = ((λ l h. omega arith), (λ l h. omega arith))

pub common_greatest : (a b c : Powers) → Divides c a → Divides c b → Divides c (common a b)
common_greatest a b c p q l h = omega (arith, p l h, q l h)

-- order
pub unit_before : (j : ℕ) → j < letters → Before unit (letter j)
unit_before j h = (j, h, omega (arith, letter_own j), λ k l. sym (letter_other j k (λ e. omega arith)))

pub letter_before : (i j : ℕ) → j < i → i < letters → Before (letter i) (letter j)
letter_before i j l h = (j, omega arith, omega (arith, letter_own j, letter_other i j (λ e. omega arith)), λ k m. letter_other i k (λ e. omega arith) ∙ sym (letter_other j k (λ e. omega arith)))

pub before_apart : (a b : Powers) → Before a b → Same a b → ⊥
before_apart a b p s = omega (arith, p.2, s p.0 p.1)

pub before_same : (a b a' b' : Powers) → Same a a' → Same b b' → Before a b → Before a' b'
before_same a b a' b' s t p = (p.0, p.1, omega (arith, p.2, s p.0 p.1, t p.0 p.1), λ k h. let m : k < letters = omega (arith, p.1) in omega (arith, p.3 k h, s k m, t k m))

pub before_trans : (a b c : Powers) → Before a b → Before b c → Before a c
before_trans a b c p q =
    ⊎_elim
    (λ e. (p.0, p.1, omega (arith, p.2, q.2, ap b e, ap c e), λ k h. p.3 k h ∙ q.3 k (omega (arith, e))))
    (⊎_elim
    (λ l. (p.0, p.1, omega (arith, p.2, q.3 p.0 l), λ k h. p.3 k h ∙ q.3 k (omega (arith, l))))
    (λ l. (q.0, q.1, omega (arith, q.2, p.3 q.0 l), λ k h. p.3 k (omega (arith, l)) ∙ q.3 k h)))
    (cases_order p.0 q.0)

-- the test
pub divides_decides : (a b : Powers) → Decides (divides_test a b) (Divides a b)
unfolding divides_below
divides_decides a b = Decides-below_and (λ l. leb (a l) (b l)) (λ l. a l ≤ b l) (divides_below a b) (λ l. (leb-true (a l) (b l), le-leb (a l) (b l))) refl (λ n. refl) letters

-- degrees
pub degree_unit : degree unit ≡ 0
degree_unit = up_to_neutral counting letters unit (λ k h. refl)

pub degree_letter : (j : ℕ) → j < letters → degree (letter j) ≡ 1
degree_letter j h = up_to_one counting letters (letter j) j h (λ k l e. letter_other j k e) ∙ letter_own j

pub degree_product : (a b : Powers) → degree (product a b) ≡ degree a + degree b
degree_product a b = up_to_join counting letters a b

pub degree_same : (a b : Powers) → Same a b → degree a ≡ degree b
degree_same a b s = up_to_same counting letters a b s

pub degree_quotient : (a b : Powers) → Divides a b → degree (quotient b a) + degree a ≡ degree b
degree_quotient a b p = sym (degree_product (quotient b a) a) ∙ degree_same (product (quotient b a) a) b (product_quotient a b p)

pub degree_divisor : (a b : Powers) → Divides a b → degree a ≤ degree b
degree_divisor a b p = up_to_le letters a b p

pub degree_common : (a b : Powers) → (degree (common a b) ≤ degree a) × (degree (common a b) ≤ degree b)
degree_common a b = (degree_divisor (common a b) a (common_divides a b).0, degree_divisor (common a b) b (common_divides a b).1)

-- a cube of degree 0 is the cube 1
pub degree_none : (a : Powers) → degree a ≡ 0 → Same a unit
degree_none a e l h = omega (arith, up_to_part letters a l h)
