-- Looking a row up among those that have names.
use Rattle.std.proofs.Common.{◌≡◌, ℕ, suc, ◌+◌, Bool, true, false, cond, ◌&&◌, ◌||◌, eqb, List, [], ◌∷◌, ◌++◌, map, length, Some, None, Option, sym, refl, ap, ◌∙◌, ap₂, ⊎_elim, arith}
use Rattle.std.proofs.lemmas.List.{length-map, map_push}
use Rattle.std.proofs.lemmas.Iterator.Adapters.{position_from-zero}
use Rattle.std.specs.List.{position, position_from}
use Rattle.std.proofs.lemmas.Bool.{both_ways, cases_Bool, cond-false, eq-eqb, or_left, or_parts, or_right}
use Rattle.algebra.specs.Cubes.{letters}
use Rattle.algebra.specs.Rows.{Row}
use Rattle.algebra.proofs.Degrees.{degree_same}
use Rattle.cubes.specs.Powers.{power}
use Rattle.rewriting.specs.Taking.{alike, found, spot}
use Rattle.dealing.specs.declared.entry.Entry.{Entry}
use Rattle.dealing.specs.Naming.{Naming, entry_row}
use Rattle.table.proofs.Alikes.{alike_decides, same_rows}
use Rattle.cubes.specs.contracts.row.RowPartialEq.TheImpl.{eq-value}

-- what `==` says of two entries is whether their rows are alike: entries of different degrees are not
pub entries_tell : (a b : Entry) → length a.row.cube.powers ≡ letters → length b.row.cube.powers ≡ letters
    → (eqb a.degree b.degree && eq-value.it a.row b.row) ≡ alike (entry_row a) (entry_row b)
entries_tell a b n m = go (eqb a.degree b.degree) refl
  where
    go : (d : Bool) → eqb a.degree b.degree ≡ d → (d && eq-value.it a.row b.row) ≡ alike (entry_row a) (entry_row b)
    go true e = same_rows a.row b.row n m
    go false e =
        sym (⊎_elim
        (λ t. absurd (both_ways (eqb a.degree b.degree) e (eq-eqb a.degree b.degree
        (a.counted ∙ degree_same (power a.row.cube) (power b.row.cube) ((alike_decides (entry_row a) (entry_row b)).0 t).cubes ∙ sym b.counted))))
        (λ f. f) (cases_Bool (alike (entry_row a) (entry_row b))))

-- the place of the first entry alike is the name, if there is one
pub place_is : (xs : List Entry) (r : Row) → position (λ x. alike (entry_row x) r) xs ≡ cond (found (map entry_row xs) r) (Some (spot (map entry_row xs) r)) None
place_is xs r =
    position_from-zero (λ x. alike (entry_row x) r) xs ∙ place_from 0 xs
    ∙ ap (λ (n : ℕ). cond (found (map entry_row xs) r) (Some n) None) (omega arith)
  where
    next : (b f : Bool) (i n : ℕ) (o : Option ℕ) → o ≡ cond f (Some (i + 1 + n)) None → cond b (Some i) o ≡ cond (b || f) (Some (i + cond b 0 (suc n))) None
    next true f i n o h = ap Some (omega arith)
    next false true i n o h = h ∙ ap Some (omega arith)
    next false false i n o h = h

    place_from : (i : ℕ) (xs : List Entry) → position_from (λ x. alike (entry_row x) r) i xs ≡ cond (found (map entry_row xs) r) (Some (i + spot (map entry_row xs) r)) None
    place_from i [] = refl
    place_from i (x ∷ xs) = next (alike (entry_row x) r) (found (map entry_row xs) r) i (spot (map entry_row xs) r) _ (place_from (i + 1) xs)

-- a row that had no name is added behind
found_push : (xs : List Row) (r : Row) → found (xs ++ r ∷ []) r ≡ true
found_push [] r = or_left (alike r r) false ((alike_decides r r).1 (record { sign = refl; cubes = λ l h. refl }))
found_push (x ∷ xs) r = or_right (alike x r) (found (xs ++ r ∷ []) r) (found_push xs r)

spot_push : (xs : List Row) (r : Row) → found xs r ≡ false → spot (xs ++ r ∷ []) r ≡ length xs
spot_push [] r h = ap (λ (b : Bool). cond b 0 1) ((alike_decides r r).1 (record { sign = refl; cubes = λ l k. refl }))
spot_push (x ∷ xs) r h =
    let t = or_parts (alike x r) (found xs r) h in
    ap₂ (λ (b : Bool) (n : ℕ). cond b 0 (suc n)) t.0 (spot_push xs r t.1)

pub naming_push : (xs ys : List Entry) (x : Entry) (n : ℕ) → found (map entry_row xs) (entry_row x) ≡ false → ys ≡ xs ++ x ∷ [] → n ≡ length xs
    → Naming (map entry_row xs) (entry_row x) n (map entry_row ys)
naming_push xs ys x n f e l =
    let new : map entry_row ys ≡ map entry_row xs ++ entry_row x ∷ [] = ap (map entry_row) e ∙ map_push entry_row xs x in
    record {
      kept = new ∙ sym (cond-false (found (map entry_row xs) (entry_row x)) (map entry_row xs) (map entry_row xs ++ entry_row x ∷ []) f);
      named = ap (λ (rs : List Row). found rs (entry_row x)) new ∙ found_push (map entry_row xs) (entry_row x);
      name = l ∙ sym (length-map xs entry_row) ∙ sym (spot_push (map entry_row xs) (entry_row x) f) ∙ ap (λ (rs : List Row). spot rs (entry_row x)) (sym new);
    }
