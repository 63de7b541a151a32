use Rattle.tau_points.proofs.point_set.PointSet.union.Goals as goal

pub returns-clause-members : goal.returns-clause-members
returns-clause-members c = rw (← c.self.view_is, ← c.other.view_is, ← c.deref.ensures.value) c.merge.ensures.members

pub returns-clause-unchanged : goal.returns-clause-unchanged
returns-clause-unchanged c = rw (← c.self.view_is, ← c.other.view_is, ← c.deref.ensures.value) c.merge.ensures.unchanged
