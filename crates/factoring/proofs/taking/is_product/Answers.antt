use Rattle.std.proofs.Common.{◌≡◌, ◌∙◌, true, false, Some, None, Option, length, sym, rules}
use Rattle.std.specs.Option.{option_eq}
use Rattle.algebra.specs.Rows.{Alike, divides_test, quotient_row}
use Rattle.algebra.specs.Cubes.{letters}
use Rattle.cubes.specs.contracts.row.RowPartialEq.TheImpl.{eq-value}
use Rattle.cubes.specs.declared.row.Row.{Row}
use Rattle.cubes.specs.declared.cube.Cube.{Cube}
use Rattle.cubes.specs.Powers.{power}
use Rattle.cubes.specs.Rows.{as_row}
use Rattle.rewriting.specs.Factor.{product_row}
use Rattle.rewriting.specs.Taking.{alike}
use Rattle.table.proofs.Alikes.{alike_divided, alike_quotient, alike_second, same_rows}
use Rattle.factoring.proofs.taking.is_product.Goals as goal

module _ (row column : Row) (c : Cube) (long : length column.cube.powers ≡ letters) where
  product_is : (o : Option Row) → ((q : Row) → o ≡ Some q → length q.cube.powers ≡ letters)
      → elim o as (λ _. Type 0) [ Some x ↦ (divides_test (power c) (power row.cube) ≡ true) × Alike (quotient_row (power c) (as_row row)) (as_row x) | None ↦ divides_test (power c) (power row.cube) ≡ false ]
      → option_eq eq-value.it o (Some column) ≡ alike (as_row row) (product_row (power c) (as_row column))
  product_is None l h = sym (alike_divided (power c) (as_row row) (as_row column) h)
  product_is (Some q) l h =
      same_rows q column (l q cc) long ∙ sym (alike_second (quotient_row (power c) (as_row row)) (as_row q) (as_row column) h.1)
      ∙ alike_quotient (power c) (as_row row) (as_row column) h.0

pub returns-then-eq : goal.returns-then-eq
returns-then-eq c = c.eq-then-eq.ensures ∙ product_is c.args.row c.args.column c.args.cokernel (search rules) c.divide.result (λ q e. search (rules, e)) c.divide.ensures
