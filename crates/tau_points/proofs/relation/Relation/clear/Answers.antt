use Rattle.tau_points.specs.Order.{pair_cmp}
use Rattle.tau_points.proofs.SortedLists.{sorted_nil}
use Rattle.tau_points.proofs.relation.Relation.clear.Goals as goal

pub invariant_of-self : goal.invariant_of-self
invariant_of-self c = rw c.clear.ensures.items (sorted_nil pair_cmp)
