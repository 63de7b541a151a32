use Rattle.tau_points.proofs.point_set.PointSet.from_visited.Goals as goal

pub returns-clause-members : goal.returns-clause-members
returns-clause-members c = rw (← c.in_ok-items.ensures) c.arrange.ensures.members
