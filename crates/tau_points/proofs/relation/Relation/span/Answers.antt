use Rattle.std.proofs.Common.{rules, sym, subst}
use Rattle.std.specs.Ordering.{is_le}
use Rattle.std.proofs.lemmas.List.Sorted.{IsPartitionPoint-from_clause}
use Rattle.tau_points.specs.Order.{point_cmp, IsAscendingInPairs}
use Rattle.tau_points.specs.declared.point.Point.{Point}
use Rattle.tau_points.proofs.PointOrder.{partitioned_le, IsSpan, span_read}
use Rattle.tau_points.proofs.relation.Relation.span.Goals as goal

is_span : (c : goal.After-partition_point-past) → IsSpan c.args.from.now c.args.self.now c.first_from-first.result c.partition_point-past.result
is_span c =
    span_read c.args.from.now _ _ _ _ _ c.deref.ensures.value c.self.view_is c.first_from-first.ensures.within c.partition_point-past.ensures.bound c.first_from-first.ensures.before c.first_from-first.ensures.not_before
    (IsPartitionPoint-from_clause (λ (x : Point × Point). is_le (point_cmp x.0 c.args.from.now)) _ _ c.partition_point-past.ensures.partitioned
    (partitioned_le c.args.from.now _ (subst IsAscendingInPairs (sym c.deref.ensures.value) c.self.invariant)) (λ a r f k. search rules))

pub returns-clause-ordered : goal.returns-clause-ordered
returns-clause-ordered c = (is_span c).ordered

pub returns-clause-before : goal.returns-clause-before
returns-clause-before c = (is_span c).before

pub returns-clause-inside : goal.returns-clause-inside
returns-clause-inside c = (is_span c).inside

pub returns-clause-after : goal.returns-clause-after
returns-clause-after c = (is_span c).after
