use Rattle.std.proofs.Common.{◌≡◌, ◌∙◌, sym, ap, None}
use Rattle.std.specs.Option.{option_copied}
use Rattle.tau_trace.specs.Run.{step_at}
use Rattle.tau_layout.proofs.LaneLemmas.{lane_found, lane_none}
use Rattle.tau_layout.proofs.lanes.lane_at.Goals as goal

pub returns-in-Some : goal.returns-in-Some
returns-in-Some c = lane_found c.args.trace.now.run c.args.place c.in-Some.step.now c.lane_of.result (sym c.in-Some.ensures) c.lane_of.ensures

pub returns-in-None : goal.returns-in-None
returns-in-None c =
    let none : None ≡ step_at c.args.trace.now.run c.args.place = sym (ap option_copied c.in-None.is) ∙ c.step.ensures in
    lane_none c.args.trace.now.run c.args.place (sym none)
