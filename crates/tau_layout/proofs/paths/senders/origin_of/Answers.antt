use Rattle.std.proofs.Common.{ℕ, Option, subst}
use Rattle.tau_trace.specs.Numbering.{IsPlaceOf, IsSender}
use Rattle.tau_layout.proofs.Origins.{origin_told, no_sender}
use Rattle.tau_layout.proofs.paths.senders.origin_of.Goals as goal

pub returns-in_err-who : goal.returns-in_err-who
returns-in_err-who c =
    let T = c.args.trace.now.run in
    let m = c.args.message in
    rw c.from_residual-in_err-who.ensures (no_sender T m (subst (λ (o : Option ℕ). IsSender T m o) c.in_err-who.was c.sender.ensures))

pub returns : goal.returns
returns c =
    let T = c.args.trace.now.run in
    let m = c.args.message in
    origin_told T m c.in_ok-place.place c.in_ok-who.who
    (subst (λ (o : Option ℕ). IsPlaceOf T m o) c.in_ok-place.was c.origin.ensures)
    (subst (λ (o : Option ℕ). IsSender T m o) c.in_ok-who.was c.sender.ensures)
