use Rattle.rewriting.proofs.Worked.{minus_figure, share_figure}
use Rattle.rewriting.proofs.figures.rewriting_figures.Goals as goal

pub returns : goal.returns
returns c = record { minus = minus_figure; share = share_figure }
