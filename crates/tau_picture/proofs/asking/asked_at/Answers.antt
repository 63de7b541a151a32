use Rattle.std.proofs.Common.{◌<◌, List, Option, refl, subst, arith}
use Rattle.tau_explain.specs.declared.chains.chained.Chained.{Chained}
use Rattle.tau_trace.specs.Run.{len}
use Rattle.tau_scene.specs.Causes.Causes.{IsCauseAt}
use Rattle.tau_picture.proofs.Asks.{cause_asked_for, asked_without}
use Rattle.tau_picture.proofs.asking.asked_at.Goals as goal

pub returns-in-Some : goal.returns-in-Some
returns-in-Some c =
    let T = c.args.trace.now.run in
    let cut = c.args.cut.now in
    let told = subst (λ (o : Option (List Chained)). IsCauseAt T cut c.args.place o) c.in-Some.is c.in_ok-chain.ensures in
    record { allowed = cause_asked_for T cut c.args.place c.in-Some.chain c.requires told; place = refl; within = omega (arith, c.if-place-from.false, c.from.ensures, c.len.ensures.len); cause = told }

pub returns-in-None : goal.returns-in-None
returns-in-None c =
    let T = c.args.trace.now.run in
    let cut = c.args.cut.now in
    let within : c.args.place < len T = omega (arith, c.if-place-from.false, c.from.ensures, c.len.ensures.len) in
    asked_without T cut c.args.place c.without_cause.result c.requires within
    (subst (λ (o : Option (List Chained)). IsCauseAt T cut c.args.place o) c.in-None.is c.in_ok-chain.ensures) c.without_cause.ensures
