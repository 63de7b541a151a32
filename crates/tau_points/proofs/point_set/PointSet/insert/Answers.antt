use Rattle.tau_points.proofs.point_set.PointSet.insert.Goals as goal

pub returns-clause-members : goal.returns-clause-members
returns-clause-members c = rw (← c.self.view_is) c.insert.ensures.members
