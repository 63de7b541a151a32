use Rattle.std.proofs.Common.{sym}
use Rattle.tau_points.proofs.Membership.{AddsAll-then, AddsAll-push, AddsAll-none, AddsAll-same}
use Rattle.tau_points.proofs.PointOrder.{point_eq-Decides}
use Rattle.show_parts.proofs.searches.LongerLinks.push_next.Goals as goal

pub returns-in_ok-push : goal.returns-in_ok-push
returns-in_ok-push c =
    let at = (point_eq-Decides c.args.point.now c.args.self.now.from).0 (sym c.if-eq.ensures) in
    AddsAll-then _ _ _ _ _ c.in_ok-push_next.ensures
    (AddsAll-same _ _ _ _ (λ q. (λ e. (at, e), λ both. both.1)) (AddsAll-push _ _ _ c.in_ok-push.ensures.items))

pub returns-else-eq : goal.returns-else-eq
returns-else-eq c =
    AddsAll-then _ _ _ _ _ c.in_ok-push_next.ensures
    (AddsAll-none _ _ (λ q both. cc ((point_eq-Decides c.args.point.now c.args.self.now.from).1 both.0, c.if-eq.ensures)))
