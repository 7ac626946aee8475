-- The style that a table holds.
use Rattle.std.specs.Prelude.{ℕ, ◌+◌, List, [], map, take, slice_index_or}
use Rattle.cubes.specs.declared.row.Row.{Row}
use Rattle.cubes.specs.Expressions.{rows_of}
use Rattle.cubes.specs.Rows.{as_rows}
use Rattle.sheet.specs.Numerals.{numerals_list}
use Rattle.rewriting.specs.Styles.{Style}
use Rattle.table.specs.declared.table.Table.{Table}

-- the rows of expression e, none where there is no such expression
abbrev pub rows_at : Table → ℕ → List Row
rows_at t e = slice_index_or (map rows_of t.expressions) e []

-- how many expressions stand
abbrev pub standing_in : Table → ℕ
standing_in t = 16 + t.parts

-- the table as a style: signs and powers
abbrev pub style_of : Table → Style
style_of t = record {
  numerals = numerals_list t.numerals;
  parts = t.parts;
  expression = λ e. as_rows (rows_at t e);
}

abbrev pub order_of : Table → List ℕ
order_of t = take (standing_in t) t.order
