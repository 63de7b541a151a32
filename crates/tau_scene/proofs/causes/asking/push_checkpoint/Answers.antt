use Rattle.std.proofs.Common.{◌≡◌, ◌↔◌, Option, Some, subst}
use Rattle.tau_points.specs.declared.point.Point.{Point}
use Rattle.tau_past.specs.Audits.{ChecksAt}
use Rattle.tau_scene.proofs.Collecting.{check_one, check_nothing}
use Rattle.tau_scene.proofs.causes.asking.push_checkpoint.Goals as goal

pub returns-in_ok-push : goal.returns-in_ok-push
returns-in_ok-push c = check_one c.args.index.now c.args.place c.in-Some.point c.args.points.now.items c.push.new.self.items (subst (λ (o : Option Point). (p : Point) → ChecksAt c.args.index.now c.args.place p ↔ (o ≡ Some p)) c.in-Some.is c.checkpoint_at.ensures) c.in_ok-push.ensures.items

pub returns-in_default : goal.returns-in_default
returns-in_default c = check_nothing c.args.index.now c.args.place c.args.points.now.items (subst (λ (o : Option Point). (p : Point) → ChecksAt c.args.index.now c.args.place p ↔ (o ≡ Some p)) c.in_default.is c.checkpoint_at.ensures)
