use Rattle.std.proofs.Common.{refl, subst, arith, ◌≡◌}
use Rattle.tau_points.specs.Members.{AddsAll}
use Rattle.tau_explain.specs.Links.Inner.Dependents.{IsBelowNumber}
use Rattle.tau_explain.proofs.PushLemmas.{below_more, up_to_below}
use Rattle.tau_explain.proofs.links.dependents.push_incarnations.Goals as goal

pub loop-incarnation-preserved : goal.loop-incarnation-preserved
loop-incarnation-preserved c = below_more c.args.who c.args.interval c.loop-incarnation.incarnation _ c.args.into.now.items c.loop-incarnation.into.items c.push.new.self.items refl c.in_ok-push.ensures.items c.loop-incarnation.invariant

pub returns : goal.returns
returns c =
    let is : c.loop-incarnation.incarnation ≡ c.args.number = omega (arith, c.loop-incarnation-test.false, c.loop-incarnation.auto.incarnation-end) in
    up_to_below c.args.who c.args.interval c.args.number c.args.into.now.items c.push-2.new.self.items
    (below_more c.args.who c.args.interval c.args.number _ c.args.into.now.items c.loop-incarnation.into.items c.push-2.new.self.items refl c.in_ok-push-2.ensures.items
    (subst (λ n. AddsAll (IsBelowNumber c.args.who c.args.interval n) c.args.into.now.items c.loop-incarnation.into.items) is c.loop-incarnation.invariant))
