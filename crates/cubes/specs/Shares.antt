-- A cube shared out of rows: each row that it divides is divided once and gains a letter.
use Rattle.std.specs.Prelude.{◌≡◌, ℕ, ◌<◌, cond, List, map, length}
use Rattle.std.specs.List.{AllZip}
use Rattle.algebra.specs.Cubes.{Powers, letter, letters, product, quotient}
use Rattle.algebra.specs.Rows.{Row as Term, Alike, divides_test}
use Rattle.cubes.specs.Rows.{as_rows, divided_rows, powers_at}
use Rattle.cubes.specs.declared.row.Row.{Row}

-- no row has the letter
abbrev pub Lacks : ℕ → List Row → Type 0
Lacks j xs = (k : ℕ) → k < length xs → powers_at xs k j ≡ 0

-- a row that the cube divides is divided once and gains the letter; any other stays
abbrev pub shared_row : ℕ → Powers → Term → Term
shared_row j c r = record {
  negative = r.negative;
  cube = cond (divides_test c r.cube) (product (quotient r.cube c) (letter j)) r.cube;
}

-- the letter j was in no row of xs, and the rows ys are those of xs with the cube c shared out; n of them were divided
pub record Shared (j : ℕ) (c : Powers) (xs ys : List Row) (n : ℕ) : Type 0 where
  pub known : j < letters
  pub fresh : Lacks j xs
  pub rows : AllZip Alike (as_rows ys) (map (shared_row j c) (as_rows xs))
  pub count : n ≡ divided_rows c xs

-- there is no letter j, or a row of xs has it, and the rows ys are those of xs
pub record Unshared (j : ℕ) (xs ys : List Row) : Type 0 where
  pub taken : j < letters → Lacks j xs → ⊥
  pub stay : ys ≡ xs
