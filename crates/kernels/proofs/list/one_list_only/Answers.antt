use Rattle.kernels.proofs.Uniques.{one_list}
use Rattle.kernels.proofs.list.one_list_only.Goals as goal

pub returns : goal.returns
returns c = one_list
