use Rattle.std.proofs.Common.{refl}
use Rattle.std.proofs.lemmas.List.Filters.{dedup_is}
use Rattle.std.proofs.lemmas.List.Kept.{IsStrictlySortedBy-dedup}
use Rattle.tau_points.proofs.SortedLists.{SameMembers-sorted}
use Rattle.tau_points.proofs.sorted.arrange.Goals as goal

pub returns-clause-sorted : goal.returns-clause-sorted
returns-clause-sorted g c = rw (dedup_is _ _ _ c.dedup.ensures.filtered) (IsStrictlySortedBy-dedup g.met.T.Ord.total g.met.T.Ord.matches_eq _ c.sort_unstable.ensures.sorted)

pub returns-clause-members : goal.returns-clause-members
returns-clause-members g c =
    SameMembers-sorted g.met.T.Eq.laws g.met.T.Exact.exact g.met.T.Ord.matches_eq _ _ _ _ refl c.sort_unstable.ensures.permutation (dedup_is _ _ _ c.dedup.ensures.filtered)
