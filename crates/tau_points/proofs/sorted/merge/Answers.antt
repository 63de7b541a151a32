use Rattle.std.proofs.Common.{subst, List}
use Rattle.std.specs.List.{Contains}
use Rattle.tau_points.specs.Members.{Joins}
use Rattle.tau_points.proofs.SortedLists.{Joins-known, Joins-unchanged}
use Rattle.tau_points.proofs.sorted.merge.Goals as goal

pub returns-then-missing-eq0-clause-members : goal.returns-then-missing-eq0-clause-members
returns-then-missing-eq0-clause-members g c =
    Joins-known _ _ (λ q here. subst (λ (l : List g.row.T.Denot). Contains l q) c.deref.ensures.value (c.count_missing-missing.ensures c.if-missing-eq0.true q here))

pub returns-clause-members : goal.returns-clause-members
returns-clause-members g c =
    subst (λ (l : List g.row.T.Denot). Joins l c.args.others.now c.in_ok-all.all.items) c.deref-2.ensures.value c.in_ok-all.ensures.members

pub returns-clause-unchanged : goal.returns-clause-unchanged
returns-clause-unchanged g c = λ has.
    Joins-unchanged g.met.T.Ord.total _ _ _ c.requires.ours c.in_ok-all.ensures.sorted (returns-clause-members g c) has
