-- The kernels of small expressions.
use Rattle.std.proofs.Common.{◌≡◌, ℕ, zero, suc, ◌<◌, ◌≤◌, ◌⊎◌, List, [], ◌∷◌, length, sym, refl, ap, ◌∙◌, inl, inr, ⊎_elim, arith}
use Rattle.std.proofs.lemmas.Bool.{cases_eq}
use Rattle.algebra.specs.Cubes.{letters, Powers, Same, Divides, Before, unit, letter, product, quotient}
use Rattle.algebra.specs.Kernels.{Uses, KernelAt}
use Rattle.algebra.specs.Figures.{at_place, KernelsAre, KernelFigures, a, b, c}
use Rattle.algebra.proofs.Degrees.{letter_own, letter_other, unit_before, letter_before}

-- fewer than two rows have no kernels
pub no_kernel : (rows : ℕ) (cube_at : ℕ → Powers) (d : Powers) → rows ≤ 1 → KernelAt rows cube_at d → ⊥
no_kernel rows cube_at d h x = omega (arith, x.two.2, x.two.4.0)

few : (cubes : List Powers) → length cubes ≤ 1 → KernelsAre cubes []
few cubes h = record {
  each = λ i l. absurd (omega arith);
  all = λ d x. absurd (no_kernel (length cubes) (at_place cubes) d h x);
  ascend = λ i j l m. absurd (omega arith);
}

-- cubes in the letters a, b, c alone
by_three : (P : ℕ → Type 0) → P 0 → P 1 → P 2 → ((l : ℕ) → 2 < l → l < letters → P l) → (l : ℕ) → l < letters → P l
by_three P x y z w zero h = x
by_three P x y z w (suc zero) h = y
by_three P x y z w (suc (suc zero)) h = z
by_three P x y z w (suc (suc (suc l))) h = w (suc (suc (suc l))) (omega arith) h

past : (j l : ℕ) → j ≤ 2 → 2 < l → letter j l ≡ 0
past j l h m = letter_other j l (λ e. omega arith)

-- what divides two cubes of two letters that share one is the cube 1 or that letter
shared : (d : Powers) (i j k : ℕ) → i < letters → (i ≡ j → ⊥) → (j ≡ k → ⊥) → Divides d (product (letter i) (letter j)) → Divides d (product (letter i) (letter k))
    → Same d unit ⊎ Same d (letter i)
shared d i j k h ij jk p q =
    ⊎_elim
    (λ e. inl (λ l m. ⊎_elim (λ w. ap d w ∙ e) (off l m) (cases_eq l i)))
    (λ n. inr (λ l m. ⊎_elim (λ w. ap d w ∙ full n ∙ sym (ap (letter i) w ∙ letter_own i)) (λ w. off l m w ∙ sym (letter_other i l w)) (cases_eq l i)))
    (cases_eq (d i) 0)
  where
    off : (l : ℕ) → l < letters → (l ≡ i → ⊥) → d l ≡ 0
    off l m w =
        ⊎_elim
        (λ e. omega (arith, q l m, letter_other i l w, letter_other k l (λ f. jk (sym e ∙ f))))
        (λ n. omega (arith, p l m, letter_other i l w, letter_other j l n))
        (cases_eq l j)

    full : (d i ≡ 0 → ⊥) → d i ≡ 1
    full n = omega (arith, p i h, letter_own i, letter_other j i ij)

-- two places below two, and below three
two_below : (P : ℕ → ℕ → Type 0) → P 0 1 → (k m : ℕ) → k < m → m < 2 → P k m
two_below P x zero zero h l = absurd (omega arith)
two_below P x zero (suc zero) h l = x
two_below P x (suc k) zero h l = absurd (omega arith)
two_below P x (suc k) (suc zero) h l = absurd (omega arith)
two_below P x k (suc (suc m)) h l = absurd (omega arith)

three_below : (P : ℕ → ℕ → Type 0) → P 0 1 → P 0 2 → P 1 2 → (k m : ℕ) → k < m → m < 3 → P k m
three_below P x y z k zero h l = absurd (omega arith)
three_below P x y z zero (suc zero) h l = x
three_below P x y z (suc k) (suc zero) h l = absurd (omega arith)
three_below P x y z zero (suc (suc zero)) h l = y
three_below P x y z (suc zero) (suc (suc zero)) h l = z
three_below P x y z (suc (suc k)) (suc (suc zero)) h l = absurd (omega arith)
three_below P x y z k (suc (suc (suc m))) h l = absurd (omega arith)

-- ab + ac
abbrev ab_ac : List Powers
ab_ac = product a b ∷ product a c ∷ []

abbrev PairUses : Powers → ℕ → Type 0
PairUses d k = Uses 2 (at_place ab_ac) d k

pair_a : KernelAt 2 (at_place ab_ac) a
pair_a = record {
  two = (0, 1, omega arith, first, second);
  free = by_three (λ l. (k : ℕ) × PairUses a k × (quotient (at_place ab_ac k) a l ≡ 0)) (0, first, refl) (1, second, refl) (0, first, refl) (λ l h m. (0, first, omega (arith, past 1 l (omega arith) h)));
}
  where
    first : PairUses a 0
    first = (omega arith, λ l h. omega arith)

    second : PairUses a 1
    second = (omega arith, λ l h. omega arith)

-- each row has the letter a
pair_has_a : (k : ℕ) → k < 2 → 1 ≤ at_place ab_ac k 0
pair_has_a zero h = omega arith
pair_has_a (suc zero) h = omega arith
pair_has_a (suc (suc k)) h = absurd (omega arith)

pair_all : (d : Powers) → KernelAt 2 (at_place ab_ac) d → Same d a
pair_all d x = let t = x.two in two_below (λ k m. PairUses d k → PairUses d m → Same d a) both t.0 t.1 t.2 t.4.0 t.3 t.4
  where
    both : PairUses d 0 → PairUses d 1 → Same d a
    both u v =
        ⊎_elim
        (λ s. let f = x.free 0 (omega arith) in absurd (omega (arith, s 0 (omega arith), f.2, pair_has_a f.0 f.1.0)))
        (λ s. s)
        (shared d 0 1 2 (omega arith) (λ e. omega arith) (λ e. omega arith) u.1 v.1)

pair_each : (i : ℕ) → i < 1 → KernelAt 2 (at_place ab_ac) (at_place (a ∷ []) i)
pair_each zero h = pair_a
pair_each (suc i) h = absurd (omega arith)

pair_are : KernelsAre ab_ac (a ∷ [])
pair_are = record { each = pair_each; all = λ d x. (0, omega arith, pair_all d x); ascend = λ i j h l. absurd (omega arith) }

-- ab + ac + bc
abbrev ab_ac_bc : List Powers
ab_ac_bc = product a b ∷ product a c ∷ product b c ∷ []

abbrev ThreeUses : Powers → ℕ → Type 0
ThreeUses d k = Uses 3 (at_place ab_ac_bc) d k

abbrev Without : Powers → ℕ → Type 0
Without d l = (k : ℕ) × ThreeUses d k × (quotient (at_place ab_ac_bc k) d l ≡ 0)

uses_0 : (d : Powers) → Divides d (product a b) → ThreeUses d 0
uses_0 d h = (omega arith, h)

uses_1 : (d : Powers) → Divides d (product a c) → ThreeUses d 1
uses_1 d h = (omega arith, h)

uses_2 : (d : Powers) → Divides d (product b c) → ThreeUses d 2
uses_2 d h = (omega arith, h)

three_unit : KernelAt 3 (at_place ab_ac_bc) unit
three_unit = record {
  two = (0, 1, omega arith, x, y);
  free = by_three (Without unit) (2, z, refl) (1, y, refl) (0, x, refl) (λ l h m. (0, x, omega (arith, past 0 l (omega arith) h, past 1 l (omega arith) h)));
}
  where
    x : ThreeUses unit 0
    x = uses_0 unit (λ l h. omega arith)

    y : ThreeUses unit 1
    y = uses_1 unit (λ l h. omega arith)

    z : ThreeUses unit 2
    z = uses_2 unit (λ l h. omega arith)

three_a : KernelAt 3 (at_place ab_ac_bc) a
three_a = record {
  two = (0, 1, omega arith, x, y);
  free = by_three (Without a) (0, x, refl) (1, y, refl) (0, x, refl) (λ l h m. (0, x, omega (arith, past 1 l (omega arith) h)));
}
  where
    x : ThreeUses a 0
    x = uses_0 a (λ l h. omega arith)

    y : ThreeUses a 1
    y = uses_1 a (λ l h. omega arith)

three_b : KernelAt 3 (at_place ab_ac_bc) b
three_b = record {
  two = (0, 2, omega arith, x, y);
  free = by_three (Without b) (2, y, refl) (0, x, refl) (0, x, refl) (λ l h m. (0, x, omega (arith, past 0 l (omega arith) h)));
}
  where
    x : ThreeUses b 0
    x = uses_0 b (λ l h. omega arith)

    y : ThreeUses b 2
    y = uses_2 b (λ l h. omega arith)

three_c : KernelAt 3 (at_place ab_ac_bc) c
three_c = record {
  two = (1, 2, omega arith, x, y);
  free = by_three (Without c) (2, y, refl) (1, x, refl) (1, x, refl) (λ l h m. (1, x, omega (arith, past 0 l (omega arith) h)));
}
  where
    x : ThreeUses c 1
    x = uses_1 c (λ l h. omega arith)

    y : ThreeUses c 2
    y = uses_2 c (λ l h. omega arith)

abbrev four : List Powers
four = unit ∷ c ∷ b ∷ a ∷ []

three_each : (i : ℕ) → i < 4 → KernelAt 3 (at_place ab_ac_bc) (at_place four i)
three_each zero h = three_unit
three_each (suc zero) h = three_c
three_each (suc (suc zero)) h = three_b
three_each (suc (suc (suc zero))) h = three_a
three_each (suc (suc (suc (suc i)))) h = absurd (omega arith)

abbrev Among : Powers → Type 0
Among d = (i : ℕ) × (i < 4) × Same d (at_place four i)

three_all : (d : Powers) → KernelAt 3 (at_place ab_ac_bc) d → Among d
three_all d x = let t = x.two in three_below (λ k m. ThreeUses d k → ThreeUses d m → Among d) by_a by_b by_c t.0 t.1 t.2 t.4.0 t.3 t.4
  where
    by_a : ThreeUses d 0 → ThreeUses d 1 → Among d
    by_a u v = ⊎_elim (λ s. (0, omega arith, s)) (λ s. (3, omega arith, s)) (shared d 0 1 2 (omega arith) (λ e. omega arith) (λ e. omega arith) u.1 v.1)

    by_b : ThreeUses d 0 → ThreeUses d 2 → Among d
    by_b u v = ⊎_elim (λ s. (0, omega arith, s)) (λ s. (2, omega arith, s)) (shared d 1 0 2 (omega arith) (λ e. omega arith) (λ e. omega arith) (λ l h. omega (arith, u.1 l h)) v.1)

    by_c : ThreeUses d 1 → ThreeUses d 2 → Among d
    by_c u v = ⊎_elim (λ s. (0, omega arith, s)) (λ s. (1, omega arith, s)) (shared d 2 0 1 (omega arith) (λ e. omega arith) (λ e. omega arith) (λ l h. omega (arith, u.1 l h)) (λ l h. omega (arith, v.1 l h)))

four_ascend : (i j : ℕ) → i < j → j < 4 → Before (at_place four i) (at_place four j)
four_ascend i zero h l = absurd (omega arith)
four_ascend zero (suc zero) h l = unit_before 2 (omega arith)
four_ascend (suc i) (suc zero) h l = absurd (omega arith)
four_ascend zero (suc (suc zero)) h l = unit_before 1 (omega arith)
four_ascend (suc zero) (suc (suc zero)) h l = letter_before 2 1 (omega arith) (omega arith)
four_ascend (suc (suc i)) (suc (suc zero)) h l = absurd (omega arith)
four_ascend zero (suc (suc (suc zero))) h l = unit_before 0 (omega arith)
four_ascend (suc zero) (suc (suc (suc zero))) h l = letter_before 2 0 (omega arith) (omega arith)
four_ascend (suc (suc zero)) (suc (suc (suc zero))) h l = letter_before 1 0 (omega arith) (omega arith)
four_ascend (suc (suc (suc i))) (suc (suc (suc zero))) h l = absurd (omega arith)
four_ascend i (suc (suc (suc (suc j)))) h l = absurd (omega arith)

pub kernel_figures : KernelFigures
kernel_figures = record {
  none = few [] (omega arith);
  one = λ row. few (row ∷ []) (omega arith);
  two = pair_are;
  three = record { each = three_each; all = three_all; ascend = four_ascend };
}
