use Rattle.std.proofs.Common.{◌≡◌, ◌<◌, ◌∙◌, ap, sym, Some}
use Rattle.tau_trace.specs.Run.{len}
use Rattle.tau_trace.specs.Steps.{actor}
use Rattle.tau_trace.specs.Numbering.{born, sent}
use Rattle.tau_trace.specs.Histories.{move_of, is_fall}
use Rattle.tau_trace.proofs.Quiet.{known_actor}
use Rattle.tau_report.proofs.Counting.{falls_by, falls_by_none}
use Rattle.tau_report.proofs.survey.is_falling.Goals as goal

pub returns-in-Some : goal.returns-in-Some
returns-in-Some c T opening h may =
    let s = c.args.step.now in
    let by : actor s ≡ Some c.in-Some.who = sym c.in-Some.ensures in
    let below : c.in-Some.who < born T (len T) = known_actor T.opening (born T (len T)) (sent T (len T)) c.in-Some.who s may.known by in
    c.falls.ensures ∙ ap (λ b. is_fall (move_of b s)) (c.is_stable.ensures.stable T opening h below) ∙ falls_by T s c.in-Some.who by

pub returns-in-None : goal.returns-in-None
returns-in-None c T opening h may = falls_by_none T c.args.step.now (sym c.in-None.ensures)
