-- Expressions read off a table.
use Rattle.std.proofs.Common.{◌≡◌, ℕ, zero, suc, ◌+◌, ◌<◌, ◌≤◌, List, [], ◌∷◌, map, length, get_or, take, set, sym, ap, ◌∙◌, add-one, arith, length-take}
use lib.ListN.{length-map}
use Rattle.std.proofs.lemmas.List.{get_or-map, get_or-take, get_or-set_other, get_or-set_same, map-set}
use Rattle.algebra.specs.Sums.{counting, up_to}
use Rattle.cubes.specs.declared.expression.Expression.{Expression}
use Rattle.cubes.specs.declared.row.Row.{Row}
use Rattle.cubes.specs.Expressions.{rows_of}
use Rattle.cubes.proofs.Made.{few_rows as few}
use Rattle.table.specs.declared.table.Table.{Table}
use Rattle.table.specs.Of.{rows_at, standing_in}

-- the expression read at e has the rows of expression e
pub rows_read : (t : Table) (e : ℕ) (d : Expression) → e < 32 → rows_of (get_or t.expressions e d) ≡ rows_at t e
rows_read t e d l =
    let in_range : e < length t.expressions = omega (arith, t.all) in
    sym (get_or-map rows_of t.expressions e d [] in_range)

-- an expression read off those that stand
pub standing_read : (t : Table) (n i : ℕ) (x : Expression) → n ≡ standing_in t → i < length (take n t.expressions) → x ≡ get_or (take n t.expressions) i x → rows_of x ≡ rows_at t i
standing_read t n i x is h e =
    let made : i < n = omega (arith, h, length-take n t.expressions) in
    ap rows_of (e ∙ get_or-take n t.expressions i x made) ∙ rows_read t i x (omega (arith, made, is, t.few))

-- the rows of the expressions of a list, and those of a list in which one expression is changed
abbrev pub rows_in : List Expression → ℕ → List Row
rows_in es e = get_or (map rows_of es) e []

pub rows_set_here : (es : List Expression) (f : ℕ) (x : Expression) → f < length es → rows_in (set es f x) f ≡ rows_of x
rows_set_here es f x h =
    let in_range : f < length (map rows_of es) = simp length-map (omega arith) in
    ap (λ (xs : List (List Row)). get_or xs f []) (map-set rows_of es f x) ∙ get_or-set_same (map rows_of es) f (rows_of x) [] in_range

pub rows_set_other : (es : List Expression) (f : ℕ) (x : Expression) (k : ℕ) → (k ≡ f → ⊥) → rows_in (set es f x) k ≡ rows_in es k
rows_set_other es f x k ne = ap (λ (xs : List (List Row)). get_or xs k []) (map-set rows_of es f x) ∙ get_or-set_other (map rows_of es) f k (rows_of x) [] ne

-- an expression has at most eight rows
pub few_rows : (t : Table) (e : ℕ) → length (rows_at t e) ≤ 8
few_rows t e = go t.expressions e
  where
    go : (xs : List Expression) (k : ℕ) → length (rows_in xs k) ≤ 8
    go [] k = omega arith
    go (x ∷ xs) zero = few x
    go (x ∷ xs) (suc k) = go xs k

-- one number more
pub up_to_next : (n : ℕ) (f : ℕ → ℕ) → up_to counting (n + 1) f ≡ up_to counting n f + f n
unfolding up_to
up_to_next n f = ap (λ (m : ℕ). up_to counting m f) (add-one n)
