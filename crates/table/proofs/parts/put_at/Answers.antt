use Rattle.std.proofs.Common.{refl, arith}
use Rattle.table.proofs.Puts.{part_turned}
use Rattle.table.proofs.parts.put_at.Goals as goal

pub returns-clause-put : goal.returns-clause-put
returns-clause-put c = part_turned c.args.order c.args.number c.args.at c.args.number (omega arith) (omega arith) _ c.rotate_right.new.self refl c.rotate_right.ensures.after
