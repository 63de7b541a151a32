use Rattle.std.proofs.Common.{rules, sym, subst}
use Rattle.std.specs.Ordering.{is_lt}
use Rattle.std.proofs.lemmas.List.Sorted.{IsPartitionPoint-from_clause}
use Rattle.tau_points.specs.Order.{point_cmp, IsAscendingInPairs}
use Rattle.tau_points.specs.declared.point.Point.{Point}
use Rattle.tau_points.proofs.PointOrder.{partitioned_lt, IsFirst, first_before, first_not_before}
use Rattle.tau_points.proofs.relation.Relation.first_from.Goals as goal

is_first : (c : goal.After-partition_point) → IsFirst c.args.from.now c.deref.result.now c.partition_point.result
is_first c =
    IsPartitionPoint-from_clause (λ (x : Point × Point). is_lt (point_cmp x.0 c.args.from.now)) _ _ c.partition_point.ensures.partitioned
    (partitioned_lt c.args.from.now _ (subst IsAscendingInPairs (sym c.deref.ensures.value) c.self.invariant)) (λ a r f k. search rules)

pub returns-clause-before : goal.returns-clause-before
returns-clause-before c = first_before c.args.from.now _ _ _ _ c.deref.ensures.value c.self.view_is (is_first c)

pub returns-clause-not_before : goal.returns-clause-not_before
returns-clause-not_before c = first_not_before c.args.from.now _ _ _ _ c.deref.ensures.value c.self.view_is (is_first c)
