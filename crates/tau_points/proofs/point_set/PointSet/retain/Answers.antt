use Rattle.tau_points.proofs.point_set.PointSet.retain.Goals as goal

pub returns-clause-fewer : goal.returns-clause-fewer
returns-clause-fewer g c = rw (← c.self.view_is) c.retain.ensures.fewer
