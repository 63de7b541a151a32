use Rattle.tau_points.proofs.PointOrder.{pair_cmp-total}
use Rattle.tau_points.proofs.SortedLists.{same_list}
use Rattle.tau_points.proofs.laws.pairs_by_members.Goals as goal

pub returns : goal.returns
returns c = same_list pair_cmp-total
