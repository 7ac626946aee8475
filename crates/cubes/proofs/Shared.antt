-- A cube shared out of rows.
use Rattle.std.proofs.Common.{◌≡◌, ℕ, suc, ◌+◌, ◌-◌, ◌<◌, ◌≤◌, true, false, cond, List, [], ◌∷◌, map, length, get_or, take, set, sym, ap, ◌∙◌, inl, inr, arith}
use Rattle.std.specs.List.{AllZip}
use Rattle.std.proofs.lemmas.List.{get_or-set_same, get_or-set_other, take_all}
use Rattle.std.proofs.lemmas.Bool.{cases_Bool, cases_eq, cond-true, cond-false}
use Rattle.algebra.specs.Cubes.{Powers, Same, letter, letters, product, quotient}
use Rattle.algebra.specs.Rows.{Alike, divides_test}
use Rattle.algebra.proofs.Degrees.{divides_decides, letter_other, letter_own}
use Rattle.cubes.specs.Powers.{Divided, Misses}
use Rattle.cubes.specs.Rows.{no_row, as_row, as_rows, powers_at, divided_rows, Apart}
use Rattle.cubes.specs.Shares.{Lacks, Shared, shared_row}
use Rattle.cubes.specs.declared.row.Row.{Row}
use Rattle.cubes.proofs.Tests.{test_yes, test_no}

-- the powers that a shared row has
shared_powers : ℕ → Powers → Powers → Powers
shared_powers j c b = cond (divides_test c b) (product (quotient b c) (letter j)) b

module _ (j : ℕ) (c b : Powers) where
  divided_powers : divides_test c b ≡ true → (l : ℕ) → shared_powers j c b l ≡ b l - c l + letter j l
  unfolding shared_powers
  divided_powers t l = ap (λ (a : Powers). a l) (cond-true (divides_test c b) (product (quotient b c) (letter j)) b t)

  other_powers : divides_test c b ≡ false → (l : ℕ) → shared_powers j c b l ≡ b l
  unfolding shared_powers
  other_powers t l = ap (λ (a : Powers). a l) (cond-false (divides_test c b) (product (quotient b c) (letter j)) b t)

  -- a row without the letter j, divided, with that letter
  pub gained : (ps : List ℕ) → j < length ps → b j ≡ 0 → Divided b c (λ l. get_or ps l 0)
      → Same (λ l. get_or (set ps j 1) l 0) (cond (divides_test c b) (product (quotient b c) (letter j)) b)
  unfolding shared_powers
  gained ps lt fresh d l h =
      let whole = divided_powers (test_yes c b d.divides) l in
      elim (cases_eq l j) [
        | inl e ↦
            let one : get_or (set ps j 1) l 0 ≡ 1 = ap (λ (i : ℕ). get_or (set ps j 1) i 0) e ∙ get_or-set_same ps j 1 0 lt in
            let last : letter j l ≡ 1 = ap (letter j) e ∙ letter_own j in
            let none : b l ≡ 0 = ap b e ∙ fresh in
            let sum : get_or (set ps j 1) l 0 ≡ b l - c l + letter j l = omega arith in
            sum ∙ sym whole
        | inr ne ↦
            let old : get_or (set ps j 1) l 0 ≡ get_or ps l 0 = get_or-set_other ps j l 1 0 ne in
            let last : letter j l ≡ 0 = letter_other j l ne in
            let is = d.is l h in
            let sum : get_or (set ps j 1) l 0 ≡ b l - c l + letter j l = omega arith in
            sum ∙ sym whole
      ]

  pub stayed : Misses c b → Same b (cond (divides_test c b) (product (quotient b c) (letter j)) b)
  unfolding shared_powers
  stayed m l h = sym (other_powers (test_no c b m) l)

-- two rows without the letter whose shared rows have the same cube had the same cube
module _ (j : ℕ) (c a b : Powers) (known : j < letters) (no_a : a j ≡ 0) (no_b : b j ≡ 0) where
  one_to_one : Same (shared_powers j c a) (shared_powers j c b) → Same a b
  one_to_one same =
      elim (cases_Bool (divides_test c a)) [
        | inl ta ↦
            elim (cases_Bool (divides_test c b)) [
              | inl tb ↦ λ l h.
                  let da = (divides_decides c a).0 ta l h in
                  let db = (divides_decides c b).0 tb l h in
                  omega (arith, divided_powers j c a ta l, divided_powers j c b tb l, same l h)
              | inr tb ↦ absurd (omega (arith, divided_powers j c a ta j, other_powers j c b tb j, letter_own j, same j known))
            ]
        | inr ta ↦
            elim (cases_Bool (divides_test c b)) [
              | inl tb ↦ absurd (omega (arith, other_powers j c a ta j, divided_powers j c b tb j, letter_own j, same j known))
              | inr tb ↦ λ l h. omega (arith, other_powers j c a ta l, other_powers j c b tb l, same l h)
            ]
      ]

-- the row at the place k, shared
abbrev Done : ℕ → Powers → List Row → List Row → ℕ → Type 0
Done j c xs ys k = Alike (as_row (get_or ys k no_row)) (shared_row j c (as_row (get_or xs k no_row)))

module _ (j : ℕ) (c : Powers) where
  apart_shared : (xs ys : List Row) → length ys ≡ length xs → ((k : ℕ) → k < length xs → Done j c xs ys k) → j < letters → Lacks j xs → Apart xs → Apart ys
  unfolding shared_powers
  apart_shared xs ys many done known fresh apart p q lt h same =
      let hq : q < length xs = omega arith in
      let hp : p < length xs = omega arith in
      apart p q lt hq
      (one_to_one j c (powers_at xs p) (powers_at xs q) known (fresh p hp) (fresh q hq)
      (λ l u. sym ((done p hp).cubes l u) ∙ same l u ∙ (done q hq).cubes l u))

  each_row : (xs ys : List Row) → length ys ≡ length xs → ((k : ℕ) → k < length xs → Done j c xs ys k) → AllZip Alike (as_rows ys) (map (shared_row j c) (as_rows xs))
  each_row [] [] many done = tt
  each_row [] (y ∷ ys) many done = absurd (omega arith)
  each_row (x ∷ xs) [] many done = absurd (omega arith)
  each_row (x ∷ xs) (y ∷ ys) many done = (done 0 (omega arith), each_row xs ys (omega arith) (λ k h. done (suc k) (omega arith)))

-- the rows before the place i are shared, and n of them were divided
pub record SharedBefore (j : ℕ) (c : Powers) (xs ys : List Row) (i n : ℕ) : Type 0 where
  pub many : length ys ≡ length xs
  pub done : (k : ℕ) → k < i → Done j c xs ys k
  pub count : n ≡ divided_rows c (take i xs)
  pub small : n ≤ i

module _ (j : ℕ) (c : Powers) (xs ys : List Row) where
  -- all rows
  module _ (i n : ℕ) (end : length xs ≤ i) (all : SharedBefore j c xs ys i n) (known : j < letters) (fresh : Lacks j xs) where
    done_all : (k : ℕ) → k < length xs → Done j c xs ys k
    done_all k h = all.done k (omega arith)

    pub still_apart : Apart xs → Apart ys
    still_apart apart = apart_shared j c xs ys all.many done_all known fresh apart

    pub shared_all : Shared j c xs ys n
    shared_all = record {
      known = known;
      fresh = fresh;
      rows = each_row j c xs ys all.many done_all;
      count = all.count ∙ ap (divided_rows c) (take_all i xs end);
    }
