use Rattle.rewriting.proofs.Firsts.{written_closed}
use Rattle.rewriting.proofs.Orders.{written_ordered}
use Rattle.rewriting.proofs.book.written_style.Goals as goal

pub returns : goal.returns
returns c = record { closed = written_closed; ordered = written_ordered }
