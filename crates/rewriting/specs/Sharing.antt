-- Which cube share takes: of the greatest common cubes, of degree two or more, of two rows anywhere the one that saves most, and among
-- equals the one of the earliest first row, then second row.
use Rattle.std.specs.Prelude.{◌≡◌, ℕ, ◌<◌, ◌≤◌, ◌⊎◌, length}
use Rattle.algebra.specs.Cubes.{Powers, common}
use Rattle.algebra.specs.Rows.{cube_in, degree}
use Rattle.rewriting.specs.Share.{divided, products_saved}
use Rattle.rewriting.specs.Styles.{Style, over, standing}

-- a row of a style: expression e, row k
pub record Spot : Type 0 where
  pub expression : ℕ
  pub row : ℕ

-- it is there
pub record Stands (s : Style) (x : Spot) : Type 0 where
  pub expression : x.expression < standing s
  pub row : x.row < length (s.expression x.expression)

-- x comes before y: by expression, then by row
abbrev pub Ahead : Spot → Spot → Type 0
Ahead x y = (x.expression < y.expression) ⊎ ((x.expression ≡ y.expression) × (x.row < y.row))

abbrev pub cube_of : Style → Spot → Powers
cube_of s x = cube_in (s.expression x.expression) x.row

-- the greatest common cube of two rows
abbrev pub shared_cube : Style → Spot → Spot → Powers
shared_cube s x y = common (cube_of s x) (cube_of s y)

-- two different rows, the earlier one first, with a common cube of degree two or more
pub record Sharing (s : Style) (x y : Spot) : Type 0 where
  pub first : Stands s x
  pub second : Stands s y
  pub ahead : Ahead x y
  pub high : 2 ≤ degree (shared_cube s x y)

-- the pair (u, v) is met before (x, y): by the first row, then by the second
abbrev pub MetBefore : Spot → Spot → Spot → Spot → Type 0
MetBefore u v x y = Ahead u x ⊎ ((u ≡ x) × Ahead v y)

abbrev pub pair_saving : Style → Spot → Spot → ℕ
pair_saving s x y = products_saved s (shared_cube s x y)

-- no pair saves more, and each that is met before saves less
pub record BestPair (s : Style) (x y : Spot) : Type 0 where
  pub pair : Sharing s x y
  pub most : (u v : Spot) → Sharing s u v → pair_saving s u v ≤ pair_saving s x y
  pub earliest : (u v : Spot) → Sharing s u v → MetBefore u v x y → pair_saving s u v < pair_saving s x y

-- no two rows have a common cube of degree two or more
abbrev pub NoPair : Style → Type 0
NoPair s = (x y : Spot) → Sharing s x y → ⊥

-- and so no cube of degree two or more divides two rows
abbrev pub NothingShared : Style → Type 0
NothingShared s = (c : Powers) → 2 ≤ degree c → over (divided c) s ≤ 1
