use Rattle.tau_points.proofs.PointOrder.{point_cmp-total}
use Rattle.tau_points.proofs.SortedLists.{same_list}
use Rattle.tau_points.proofs.laws.points_by_members.Goals as goal

pub returns : goal.returns
returns c = same_list point_cmp-total
