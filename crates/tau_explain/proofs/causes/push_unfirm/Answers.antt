use Rattle.std.proofs.Common.{inl, inr}
use Rattle.tau_explain.specs.Inner.Causes.{IsUnfirm}
use Rattle.tau_explain.proofs.CauseLemmas.{unfirm_one}
use Rattle.tau_explain.proofs.causes.push_unfirm.Goals as goal
use Rattle.tau_explain.proofs.causes.push_unfirm.Goals.{then-has-via-then-has, then-has-via-else-has+then-not-has}

pub returns-in_ok-push : goal.returns-in_ok-push
returns-in_ok-push c =
    let unfirm : IsUnfirm c.args.fallen.now c.args.stable.now c.args.point = elim c.then-has.branch [
      | then-has-via-then-has w ↦ inl (c.has.ensures.0 w.if-has.true)
      | then-has-via-else-has+then-not-has w ↦ inr (λ h. let t = w.has-else-has.ensures.1 h in let f = w.if-not-has.true in cc)
    ] in
    unfirm_one c.args.fallen.now c.args.stable.now c.args.point c.args.points.now.items c.push.new.self.items unfirm c.in_ok-push.ensures.items
