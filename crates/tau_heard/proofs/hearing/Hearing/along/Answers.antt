use Rattle.std.proofs.Common.{sym, ◌∙◌, subst}
use Rattle.tau_points.specs.declared.point.Point.{Point}
use Rattle.tau_trace.proofs.Lists.{same_some}
use Rattle.tau_heard.specs.declared.own.Own.{Own}
use Rattle.tau_heard.specs.Turns.{IsAlong}
use Rattle.tau_heard.proofs.hearing.Hearing.along.Goals as goal

pub returns : goal.returns
returns c = λ x e.
    let F : Own → Type 0 = λ y. IsAlong y.touched y.depended c.own_point-me.result y.roots c.in_ok-roots.roots in
    let G : Point → Type 0 = λ p. IsAlong x.touched x.depended p x.roots c.in_ok-roots.roots in
    subst G c.own_point-me.ensures (subst F (same_some (sym c.own_of.ensures ∙ e)) c.in_ok-roots.ensures)
