use Rattle.rewriting.proofs.Books.{written_worth}
use Rattle.rewriting.proofs.book.written_worth.Goals as goal

pub returns : goal.returns
returns g c = written_worth g.R.Ring.ring
