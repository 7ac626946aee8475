-- Names of rows.
use Rattle.std.proofs.Common.{◌≡◌, ℕ, suc, ◌<◌, Bool, true, false, cond, ◌||◌, eqb, List, [], ◌∷◌, ◌++◌, length, sym, refl, ap, ◌∙◌, subst, ap₂, ⊎_elim, arith}
use Rattle.std.proofs.lemmas.Bool.{both_ways, or_cases, or_left, or_right}
use Rattle.std.proofs.lemmas.Bool.Decides.{Decides-eqb, Decides-like, same_from_decides}
use Rattle.algebra.specs.Rows.{Alike, Row, row_in}
use Rattle.rewriting.specs.Taking.{alike, found, spot}
use Rattle.table.proofs.Alikes.{alike_decides, alike_first}

-- rows that are alike have the same name
pub spot_same : (names : List Row) (r s : Row) → Alike r s → spot names r ≡ spot names s
spot_same [] r s h = refl
spot_same (x ∷ xs) r s h = ap₂ (λ (b : Bool) (n : ℕ). cond b 0 (suc n)) (alike_first x r s h) (spot_same xs r s h)

pub found_same : (names : List Row) (r s : Row) → Alike r s → found names r ≡ found names s
found_same [] r s h = refl
found_same (x ∷ xs) r s h = ap₂ ◌||◌ (alike_first x r s h) (found_same xs r s h)

-- a row that is found is alike the row at its place
pub spot_found : (names : List Row) (r : Row) → found names r ≡ true → (spot names r < length names) × Alike (row_in names (spot names r)) r
spot_found [] r h = let z : ◌≡◌ {A = ℕ} 0 1 = cc in absurd (omega arith)
spot_found (x ∷ xs) r h = go (alike x r) refl (spot_found xs r)
  where
    go : (b : Bool) → alike x r ≡ b → (found xs r ≡ true → (spot xs r < length xs) × Alike (row_in xs (spot xs r)) r)
        → (cond b 0 (suc (spot xs r)) < suc (length xs)) × Alike (row_in (x ∷ xs) (cond b 0 (suc (spot xs r)))) r
    go true e f = (omega arith, (alike_decides x r).0 e)
    go false e f =
        let q : found xs r ≡ true = ⊎_elim (λ t. absurd (both_ways (alike x r) e t)) (λ t. t) (or_cases (alike x r) (found xs r) h) in
        (omega (arith, (f q).0), (f q).1)

-- two names are the same just where the rows are alike
pub name_tells : (names : List Row) (r s : Row) → found names r ≡ true → found names s ≡ true → eqb (spot names r) (spot names s) ≡ alike r s
name_tells names r s f g =
    same_from_decides {P = Alike r s} (eqb (spot names r) (spot names s)) (alike r s)
    (Decides-like (eqb (spot names r) (spot names s)) one (spot_same names r s) (Decides-eqb (spot names r) (spot names s)))
    (alike_decides r s)
  where
    one : spot names r ≡ spot names s → Alike r s
    one e =
        let p = (spot_found names r f).1 in
        let q : Alike (row_in names (spot names r)) s = subst (λ (n : ℕ). Alike (row_in names n) s) (sym e) (spot_found names s g).1 in
        record { sign = sym p.sign ∙ q.sign; cubes = λ l k. sym (p.cubes l k) ∙ q.cubes l k }

-- a name stays where more rows are named
pub found_more : (xs ys : List Row) (r : Row) → found xs r ≡ true → found (xs ++ ys) r ≡ true
found_more [] ys r h = let z : ◌≡◌ {A = ℕ} 0 1 = cc in absurd (omega arith)
found_more (x ∷ xs) ys r h =
    ⊎_elim (λ t. or_left (alike x r) (found (xs ++ ys) r) t) (λ t. or_right (alike x r) (found (xs ++ ys) r) (found_more xs ys r t)) (or_cases (alike x r) (found xs r) h)

pub spot_more : (xs ys : List Row) (r : Row) → found xs r ≡ true → spot (xs ++ ys) r ≡ spot xs r
spot_more [] ys r h = let z : ◌≡◌ {A = ℕ} 0 1 = cc in absurd (omega arith)
spot_more (x ∷ xs) ys r h = go (alike x r) h (spot_more xs ys r)
  where
    go : (b : Bool) → (b || found xs r) ≡ true → (found xs r ≡ true → spot (xs ++ ys) r ≡ spot xs r) → cond b 0 (suc (spot (xs ++ ys) r)) ≡ cond b 0 (suc (spot xs r))
    go true e f = refl
    go false e f = ap suc (f e)
