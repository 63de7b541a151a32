use Rattle.tau_points.proofs.SortedLists.{inserted}
use Rattle.tau_points.proofs.sorted.insert.Goals as goal

pub returns-in_ok-insert-in-Err-clause-sorted : goal.returns-in_ok-insert-in-Err-clause-sorted
returns-in_ok-insert-in-Err-clause-sorted g c =
    (inserted g.met.T.Ord.total _ _ _ _ _ c.deref.ensures.value c.requires c.in-Err.ensures.within c.in-Err.ensures.place c.in_ok-insert-in-Err.ensures.items).0

pub returns-in_ok-insert-in-Err-clause-members : goal.returns-in_ok-insert-in-Err-clause-members
returns-in_ok-insert-in-Err-clause-members g c =
    (inserted g.met.T.Ord.total _ _ _ _ _ c.deref.ensures.value c.requires c.in-Err.ensures.within c.in-Err.ensures.place c.in_ok-insert-in-Err.ensures.items).1
