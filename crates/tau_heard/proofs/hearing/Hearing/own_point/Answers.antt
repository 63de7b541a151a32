use Rattle.std.proofs.Common.{ℕ, ap₂}
use Rattle.tau_points.specs.declared.point.Point.{Point}
use Rattle.tau_heard.proofs.Leading.{last_is}
use Rattle.tau_heard.proofs.hearing.Hearing.own_point.Goals as goal

pub returns : goal.returns
returns c =
    let v = last_is c.args.self.now c.args.trace.now.run c.args.step.now c.requires.next c.args.who c.last_version-version.result c.requires.by c.last_version-version.ensures in
    let F : ℕ → ℕ → Point = λ i k. record { who = c.args.who; interval = i; incarnation = k } in
    ap₂ F v.interval_is v.incarnation_is
