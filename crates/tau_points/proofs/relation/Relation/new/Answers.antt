use Rattle.tau_points.specs.Order.{pair_cmp}
use Rattle.tau_points.proofs.SortedLists.{sorted_nil}
use Rattle.tau_points.proofs.relation.Relation.new.Goals as goal

pub invariant_of-result : goal.invariant_of-result
invariant_of-result c = rw c.new.ensures.items (sorted_nil pair_cmp)
