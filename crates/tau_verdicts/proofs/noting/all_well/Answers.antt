use Rattle.std.proofs.Common.{subst, arith}
use Rattle.std.proofs.lemmas.List.{take_all}
use Rattle.tau_points.specs.declared.point.Point.{Point}
use Rattle.tau_verdicts.specs.Doomed.{flag_of}
use Rattle.tau_verdicts.specs.Noting.{IsWell, AreWell}
use Rattle.tau_verdicts.proofs.Lists.{next_all}
use Rattle.tau_verdicts.proofs.noting.all_well.Goals as goal

pub loop-point-preserved : goal.loop-point-preserved
loop-point-preserved c =
    let d : Point = record { who = 0; interval = 0; incarnation = 0 } in
    next_all (IsWell c.args.logs.now (flag_of c.args.doomed.now)) c.args.points.now c.loop-point.point-index d c.loop-point-test.true c.if-not-is_well.ensures c.loop-point.invariant

pub returns : goal.returns
returns c = subst (AreWell c.args.logs.now (flag_of c.args.doomed.now)) (take_all c.loop-point.point-index c.args.points.now (omega (arith, c.loop-point-test.false))) c.loop-point.invariant
