use Rattle.std.proofs.Common.{[], List, subst, arith}
use Rattle.std.specs.Prelude.{Contains}
use Rattle.std.proofs.lemmas.List.{take_all}
use Rattle.tau_points.specs.declared.point.Point.{Point}
use Rattle.tau_points.proofs.Membership.{Contains-none}
use Rattle.tau_verdicts.specs.Spreading.{Comes}
use Rattle.tau_verdicts.proofs.Spreads.{comes_none, comes_next}
use Rattle.tau_verdicts.proofs.spreading.Spread.come_to_all.Goals as goal

pub loop-point-init : goal.loop-point-init
loop-point-init c = comes_none c.args.logs.now (Contains []) c.args.self.now.doomed.items c.args.self.now.left.items (λ q k. Contains-none q k)

pub loop-point-preserved : goal.loop-point-preserved
loop-point-preserved c =
    let d : Point = record { who = 0; interval = 0; incarnation = 0 } in
    comes_next c.args.logs.now c.args.points.now c.loop-point.point-index d
    c.args.self.now.doomed.items c.loop-point.self.doomed.items c.come_to.new.self.doomed.items c.args.self.now.left.items c.loop-point.self.left.items c.come_to.new.self.left.items
    c.loop-point-test.true c.loop-point.invariant c.in_ok-come_to.ensures

pub returns : goal.returns
returns c =
    let F : List Point → Type 0 = λ ps. Comes c.args.logs.now (Contains ps) c.args.self.now.doomed.items c.loop-point.self.doomed.items c.args.self.now.left.items c.loop-point.self.left.items in
    subst F (take_all c.loop-point.point-index c.args.points.now (omega (arith, c.loop-point-test.false))) c.loop-point.invariant
