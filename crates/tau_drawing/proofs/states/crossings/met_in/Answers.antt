use Rattle.std.proofs.Common.{ℕ, Option, ◌∙◌, refl, sym, ap, subst}
use Rattle.std.specs.Option.{option_copied}
use Rattle.tau_layout.specs.Lanes.{IsLaneAt}
use Rattle.tau_drawing.proofs.Crowds.{lane_told, met_told}
use Rattle.tau_drawing.proofs.states.crossings.met_in.Goals as goal

pub returns-then-not-is_who : goal.returns-then-not-is_who
returns-then-not-is_who c =
    λ m a. let f = c.if-not-is_who.ensures.1 (lane_told c.args.trace.now.run c.args.place c.args.who c.lane_at.result c.lane_at.ensures a.stands) in cc

pub returns-in-Some : goal.returns-in-Some
returns-in-Some c =
    let T = c.args.trace.now.run in
    let stands = subst (λ (o : Option ℕ). IsLaneAt T c.args.place o) (c.if-not-is_who.ensures.0 refl) c.lane_at.ensures in
    met_told T c.args.who c.args.place c.in-Some.step.now c.met.result stands (sym c.step.ensures ∙ ap option_copied c.in-Some.is) c.met.ensures
