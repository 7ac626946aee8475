use Rattle.std.proofs.Common.{◌≤◌, [], map, length, sym, ◌∙◌, arith}
use lib.ListN.{length-map}
use Rattle.std.proofs.lemmas.List.{get_or_past}
use Rattle.cubes.specs.Expressions.{rows_of}
use Rattle.table.proofs.Looks.{rows_read}
use Rattle.table.proofs.table.Table.rows.Goals as goal

pub returns-then-e-lt32 : goal.returns-then-e-lt32
returns-then-e-lt32 c = c.rows.ensures.are ∙ rows_read c.args.self.now c.args.e c.index-self-e.result c.if-e-lt32.true

pub returns-else-e-lt32 : goal.returns-else-e-lt32
returns-else-e-lt32 c =
    let past : length (map rows_of c.args.self.now.expressions) ≤ c.args.e = simp length-map (omega (arith, c.args.self.now.all)) in
    sym (get_or_past (map rows_of c.args.self.now.expressions) c.args.e [] past)
