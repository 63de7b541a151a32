use Rattle.tau_points.specs.Members.{AddsAll}
use Rattle.tau_explain.specs.Links.Inner.Dependents.{IsBelowNumber}
use Rattle.tau_explain.proofs.links.dependents.push_incarnations.Given as goal

abbrev pub invariant-loop-incarnation : goal.invariant-loop-incarnation
invariant-loop-incarnation l = AddsAll (IsBelowNumber l.who l.interval l.incarnation) l.fn.into.items l.into.items
