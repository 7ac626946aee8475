use Rattle.kernels.proofs.Joins.{one_joined_list}
use Rattle.kernels.proofs.list.one_joined_list_only.Goals as goal

pub returns : goal.returns
returns c = one_joined_list
