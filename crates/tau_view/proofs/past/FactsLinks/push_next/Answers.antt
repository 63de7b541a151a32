use Rattle.std.proofs.Common.{sym, subst}
use Rattle.tau_points.specs.Members.{AddsAll}
use Rattle.tau_points.specs.Reach.{Leads}
use Rattle.tau_view.proofs.Links.{links_none, links_some}
use Rattle.tau_view.proofs.past.FactsLinks.push_next.Goals as goal

pub returns-in_ok-push : goal.returns-in_ok-push
returns-in_ok-push c =
    let mid = c.push_next.new.stack.items in
    let edges = subst (λ es. AddsAll (Leads es c.args.point.now) c.args.stack.now.items mid) c.edges.ensures c.in_ok-push_next.ensures in
    links_some c.args.self.now c.args.point.now c.in-Some.before c.args.stack.now.items mid c.push.new.self.items (sym c.in-Some.ensures) edges c.in_ok-push.ensures.items

pub returns-in_default : goal.returns-in_default
returns-in_default c =
    let new = c.push_next.new.stack.items in
    let edges = subst (λ es. AddsAll (Leads es c.args.point.now) c.args.stack.now.items new) c.edges.ensures c.in_ok-push_next.ensures in
    links_none c.args.self.now c.args.point.now c.args.stack.now.items new (sym c.in_default.ensures) edges
