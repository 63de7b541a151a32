use Rattle.std.proofs.Common.{subst, sym, rules, List, Bool}
use Rattle.std.proofs.lemmas.List.{with_items_is}
use Rattle.tau_explain.specs.Chains.Inner.Incoming.{PushesIncoming}
use Rattle.std.proofs.lemmas.Result.{IfOk-weaker}
use Rattle.tau_explain.specs.Links.Inner.Dependents.{AddsTakers, IsLinked, HasPassed}
use Rattle.tau_explain.proofs.PushLemmas.{pushes}
use Rattle.tau_explain.proofs.links.dependents.DependentsIncoming.push_incoming.Goals as goal

pub returns-clause-pushed : goal.returns-clause-pushed
returns-clause-pushed c =
    let T = c.args.self.now.index.now in
    let marks = c.args.self.now.marks.now in
    let q = c.args.point.now in
    let adds : AddsTakers T marks q c.args.self.now.passed.items c.push_takers.new.passed c.args.into.now.items c.push_takers.new.into.items = subst (λ (l : List Bool). AddsTakers T marks q l c.push_takers.new.passed c.args.into.now.items c.push_takers.new.into.items) c.deref_mut.ensures.value c.in_ok-push_takers.ensures.adds in
    let before = c.args.self.now.passed in
    let is = with_items_is before c.push_takers.new.passed (search (rules, before.ok.0, c.push_takers.auto.passed, c.deref_mut.ensures.len)) in
    IfOk-weaker c.push_above.result _ _ (λ _ above. subst (λ (l : List Bool). PushesIncoming (IsLinked T marks) (IsLinked T marks) (HasPassed T marks before.items) (HasPassed T marks l) q c.args.into.now.items c.push_above.new.into.items) (sym is)
    (pushes T marks q before.items c.push_takers.new.passed c.args.into.now.items c.push_takers.new.into.items c.push_above.new.into.items adds above)) c.push_above.ensures
