-- Dividing by a letter, and by the common cube of what is left.
use Rattle.std.proofs.Common.{◌≡◌, ℕ, ◌+◌, ◌<◌, ◌≤◌, eqb, sym, refl, ◌∙◌, subst, inl, inr, arith, is_some}
use Rattle.std.proofs.lemmas.Bool.{cases_Bool, cases_eq, cond-true, cond-false, eq-eqb, ne_eqb}
use Rattle.algebra.specs.Cubes.{letters, Powers, Same, Divides, letter, product}
use Rattle.cubes.specs.Powers.{Passes}
use Rattle.kernels.specs.Rests.{Live, row, slot, Quotient, Pair, Lone, Greatest}
use Rattle.kernels.specs.Search.{Under, Small, Leads, Barren}
use Rattle.kernels.specs.declared.rest.Rest.{Rest}

-- a row of a quotient
pub row_of : (q : Rest) (c : Powers) (r : Rest) → Quotient q c r → (k : ℕ) → Live r k
    → Live q k × ((l : ℕ) → l < letters → c l + row r k l ≡ row q k l)
row_of q c r h k w =
    let f = (h k w.0).kept w.1 in
    ((w.0, f.0), λ l lt. omega (arith, f.1.divides l lt, f.1.is l lt))

-- a row that c divides is in the quotient
pub row_in : (q : Rest) (c : Powers) (r : Rest) → Quotient q c r → (k : ℕ) → Live q k → Divides c (row q k) → Live r k
row_in q c r h k w d =
    elim (cases_Bool (is_some (slot r k))) [
      | inl u ↦ (w.0, u)
      | inr u ↦ absurd (let f = (h k w.0).left w.1 u in omega (arith, f.2, d f.0 f.1))
    ]

module _ (q : Rest) (d : Powers) (j : ℕ) (lt : j < letters) (x : Powers) (is : Same x (letter j)) (r : Rest) (by : Quotient q x r) where
  has : x j ≡ 1
  has = is j lt ∙ cond-true (eqb j j) 1 0 (eq-eqb j j refl)

  others : (l : ℕ) → l < letters → (l ≡ j → ⊥) → x l ≡ 0
  others l h ne = is l h ∙ cond-false (eqb l j) 1 0 (ne_eqb l j ne)

  -- a row with the letter is in the quotient by it
  lettered : (k : ℕ) → Live q k → 0 < row q k j → Live r k
  lettered k w p =
      row_in q x r by k w
      (λ l h. elim (cases_eq l j) [
        | inl e ↦ let P : ℕ → Type 0 = λ l. x l ≤ row q k l in subst P (sym e) (omega (arith, has, p))
        | inr ne ↦ omega (arith, others l h ne)
      ])

  -- so is each row that a co-kernel with more of the letter divides
  under : (c : Powers) → d j < c j → (k : ℕ) → Under q d c k → Live r k
  under c more k u = lettered k u.0 (omega (arith, more, u.1 j lt))

  pub barren_lone : Lone r → Barren q d j
  barren_lone lone c of above agrees more =
      let t = of.two in lone t.0 t.1 t.2 (under c more t.0 t.3) (under c more t.1 t.4)

  module _ (g : Powers) (greatest : Greatest r g) where
    pub barren_before : (l : ℕ) → l < j → 0 < g l → Barren q d j
    barren_before l h p c of above agrees more =
        let in_all : l < letters = omega arith in
        let t = of.free l in_all in
        let w = under c more t.0 t.1 in
        omega (arith, t.2, agrees l h, p, (greatest l in_all).each t.0 w, (row_of q x r by t.0 w).1 l in_all)

    module _ (y : Powers) (first : Same y (product d x)) where
      -- the product with the common cube fits
      pub fits_common : Small q d → Pair r → Passes (product y g) → ⊥
      fits_common small pair p =
          let f = row_of q x r by pair.0 pair.3 in
          omega (arith, f.1 p.0 p.1, first p.0 p.1, small pair.0 f.0 p.0 p.1, (greatest p.0 p.1).each pair.0 pair.3, p.2)

      module _ (c : Powers) (second : Same c (product y g)) (s : Rest) (by_g : Quotient r g s) (none : (l : ℕ) → l < j → g l ≡ 0) (pair : Pair r) where
        within : (k : ℕ) → Live r k → Live s k
        within k w = row_in r g s by_g k w (λ l h. (greatest l h).each k w)

        own_row : (k : ℕ) → Live s k → Under s c c k
        own_row k w = (w, λ l h. omega arith)

        pub leads : Leads q d j s c
        leads = record {
          rows = λ k w.
              let f = row_of r g s by_g k w in
              let e = row_of q x r by k f.0 in
              (e.0, λ l h. omega (arith, f.1 l h, e.1 l h, first l h, second l h));
          every = λ k w p. within k (lettered k w p);
          above = λ l h. omega (arith, first l h, second l h);
          more = omega (arith, first j lt, second j lt, has);
          before = λ l h.
              let in_all : l < letters = omega arith in
              let ne : l ≡ j → ⊥ = λ e. omega arith in
              omega (arith, first l in_all, second l in_all, none l h, others l in_all ne);
          own = record {
            two = (pair.0, pair.1, pair.2, own_row pair.0 (within pair.0 pair.3), own_row pair.1 (within pair.1 pair.4));
            free = λ l h.
                let t = (greatest l h).tight in
                let w = within t.0 t.1 in
                (t.0, own_row t.0 w, omega (arith, t.2, (row_of r g s by_g t.0 w).1 l h));
          };
        }
