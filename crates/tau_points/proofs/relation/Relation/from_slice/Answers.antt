use Rattle.tau_points.proofs.relation.Relation.from_slice.Goals as goal

pub returns-clause-members : goal.returns-clause-members
returns-clause-members c = rw (← c.in_ok-items.ensures.items) c.arrange.ensures.members
