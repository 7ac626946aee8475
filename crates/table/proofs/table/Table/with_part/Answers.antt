use Rattle.std.proofs.Common.{ap, ◌∙◌, ap₂}
use Rattle.std.specs.List.{position}
use Rattle.std.specs.Option.{unwrap_or}
use Rattle.cubes.specs.Expressions.{rows_of}
use Rattle.table.specs.Adding.{source}
use Rattle.table.proofs.Adds.{part_added}
use Rattle.table.proofs.table.Table.with_part.Goals as goal

pub returns : goal.returns
returns c =
    part_added (source c.args.sources.now) (rows_of c.args.part) c.args.self.now c.unwrap_or-at.result c.with_part_at.result
    (c.unwrap_or-at.ensures ∙ ap₂ unwrap_or (c.first_source.ensures ∙ ap (position (source c.args.sources.now)) c.order.ensures) c.standing.ensures)
    c.with_part_at.ensures
