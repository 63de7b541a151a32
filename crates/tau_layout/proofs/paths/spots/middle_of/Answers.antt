use Rattle.std.proofs.Common.{ℕ, Option, subst}
use Rattle.tau_layout.specs.Lanes.{IsLaneAt}
use Rattle.tau_layout.specs.Plans.{IsX}
use Rattle.tau_layout.proofs.Middles.{middle_none, no_middle}
use Rattle.tau_layout.proofs.paths.spots.middle_of.Goals as goal

pub returns-in_err-who-clause-middle : goal.returns-in_err-who-clause-middle
returns-in_err-who-clause-middle c =
    let T = c.args.trace.now.run in
    rw c.from_residual.ensures (no_middle T c.args.layout.now c.args.place (subst (λ (o : Option ℕ). IsLaneAt T c.args.place o) c.in_err-who.was c.lane_at.ensures))

pub returns-in_err-x-clause-middle : goal.returns-in_err-x-clause-middle
returns-in_err-x-clause-middle c =
    let T = c.args.trace.now.run in
    let plan = c.args.layout.now in
    let at = subst (λ (o : Option ℕ). IsLaneAt T c.args.place o) c.in_ok-who.was c.lane_at.ensures in
    let none = subst (λ (o : Option ℕ). IsX plan c.in_ok-who.who o) c.in_err-x.was c.lane_middle.ensures.x in
    rw c.from_residual-in_err-x.ensures (middle_none T plan c.args.place c.in_ok-who.who at none)
