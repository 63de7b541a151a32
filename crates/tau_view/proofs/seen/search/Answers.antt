use Rattle.std.proofs.Common.{◌∙◌, rules}
use Rattle.std.proofs.lemmas.List.{nil_from_length}
use Rattle.tau_points.proofs.Searches.{searching_start, searching_end, searching_known, searching_new, IfOk-reached}
use Rattle.tau_view.proofs.seen.search.Goals as goal

pub search-init : goal.search-init
search-init g c = searching_start _ _ _ _ c.in_ok-seen.ensures (c.in_ok-stack.ensures.items ∙ c.points.ensures.points)

pub search-preserved-in-Continue-branch-4 : goal.search-preserved-in-Continue-branch-4
search-preserved-in-Continue-branch-4 g c =
    searching_new _ _ _ _ _ _ _ _ c.in-Some.ensures.items c.in_ok-insert.ensures.members c.in_ok-push_next.ensures c.search.invariant

pub search-preserved : goal.search-preserved
search-preserved g c =
    searching_known _ _ _ _ _ _ _ c.in-Some.ensures.items (rw c.if-branch.false at c.in_ok-insert.ensures.unchanged) (rw c.if-branch.false at c.in_ok-insert.ensures.known) c.search.invariant

pub returns-clause-reached : goal.returns-clause-reached
returns-clause-reached g c =
    IfOk-reached _ _ _ _ c.set.ensures.members (searching_end _ _ _ _ (nil_from_length c.search.stack.items (search (rules, c.in_default.ensures))) c.search.invariant)
