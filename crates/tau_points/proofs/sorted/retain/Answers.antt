use Rattle.tau_points.proofs.Filters.{sorted_kept, kept_is, fewer_kept}
use Rattle.tau_points.proofs.sorted.retain.Goals as goal

pub returns-clause-sorted : goal.returns-clause-sorted
returns-clause-sorted g c = sorted_kept _ _ _ _ _ c.requires.sorted c.retain.ensures.filtered

pub returns-clause-kept : goal.returns-clause-kept
returns-clause-kept g c = λ test computes. kept_is _ test _ _ _ computes c.retain.ensures.filtered

pub returns-clause-fewer : goal.returns-clause-fewer
returns-clause-fewer g c = fewer_kept _ _ _ _ c.retain.ensures.filtered
