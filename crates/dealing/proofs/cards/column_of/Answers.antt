use Rattle.cubes.specs.Powers.{power}
use Rattle.cubes.specs.Rows.{as_row}
use Rattle.dealing.specs.Naming.{named_rows}
use Rattle.dealing.proofs.Dealts.{some_column}
use Rattle.dealing.proofs.cards.column_of.Goals as goal

pub returns : goal.returns
returns c =
    some_column (named_rows c.args.names.now) (named_rows c.name_of.new.self) (power c.args.cokernel) c.args.place (as_row c.args.row.now) c.in-Some.quotient c.in_ok-name.name
    c.degree-degree.result c.in-Some.ensures c.in_ok-name.ensures c.degree-degree.ensures.is
