use Rattle.tau_points.specs.Order.{point_cmp}
use Rattle.tau_points.proofs.SortedLists.{sorted_nil}
use Rattle.tau_points.proofs.point_set.PointSet.clear.Goals as goal

pub invariant_of-self : goal.invariant_of-self
invariant_of-self c = rw c.clear.ensures.items (sorted_nil point_cmp)
