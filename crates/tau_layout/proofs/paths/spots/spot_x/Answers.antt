use Rattle.std.proofs.Common.{◌∙◌, subst}
use Rattle.tau_trace.specs.declared.step.Step.{Step}
use Rattle.tau_trace.proofs.Lists.{same_some}
use Rattle.tau_layout.specs.Paths.Spots.{StandsBeside, in_lane}
use Rattle.tau_layout.proofs.paths.spots.spot_x.Goals as goal

pub returns-clause-x : goal.returns-clause-x
returns-clause-x c = λ s e.
    let m = c.in-Some.middle in
    let same = same_some (c.in-Some-step.ensures ∙ e) in
    in_lane c.in-Some.ensures.middle.0 c.in-Some.ensures.middle.1
    (subst (λ (x : Step). StandsBeside c.args.trace.now.run c.args.layout.now x m.who m.x c.beside_middle.result) same c.beside_middle.ensures.x)
