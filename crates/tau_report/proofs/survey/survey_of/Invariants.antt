use Rattle.tau_trace.proofs.Prefix.{prefix}
use Rattle.tau_states.specs.Opening.{opening_states}
use Rattle.tau_report.specs.Inner.Counted.{IsSurvey}
use Rattle.tau_report.proofs.survey.survey_of.Given as goal

abbrev pub invariant-loop-place : goal.invariant-loop-place
invariant-loop-place l = IsSurvey (prefix l.trace.run l.place) (opening_states l.starts) l.survey.states.records l.survey.counts
