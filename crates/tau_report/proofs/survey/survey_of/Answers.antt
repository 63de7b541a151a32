use Rattle.std.proofs.Common.{◌≡◌, ◌∙◌, ap, sym, subst, Some, None, arith, add-one}
use Rattle.std.specs.Option.{option_copied}
use Rattle.tau_trace.specs.Run.{step_at}
use Rattle.tau_trace.proofs.Prefix.{prefix}
use Rattle.tau_states.specs.Opening.{opening_states}
use Rattle.tau_report.specs.Inner.Counted.{IsSurvey}
use Rattle.tau_report.proofs.Prefixes.{past_last}
use Rattle.tau_report.proofs.Surveys.{survey_first, survey_next, survey_few, survey_whole}
use Rattle.tau_report.proofs.survey.survey_of.Goals as goal

pub loop-place-init : goal.loop-place-init
loop-place-init c =
    let T = c.args.trace.now.run in
    let opening = opening_states c.args.starts.now in
    let records = c.in_ok-open.field-0.records in
    subst (IsSurvey (prefix T 0) opening records) (sym c.none.ensures) (survey_first T c.len-place-end.ensures.well_formed opening records (c.in_ok-open.ensures T.opening c.requires))

pub note-requires : goal.note-requires
note-requires c =
    let T = c.args.trace.now.run in
    survey_few T c.len-place-end.ensures.well_formed (opening_states c.args.starts.now) c.loop-place.place c.loop-place.survey.states.records c.loop-place.survey.counts (omega (arith, c.loop-place-test.true, c.len-place-end.ensures.len)) c.loop-place.invariant

pub unreachable-requires : goal.unreachable-requires
unreachable-requires c =
    let T = c.args.trace.now.run in
    let none : None ≡ step_at T c.loop-place.place = sym (ap option_copied c.in-None.is) ∙ c.step.ensures in
    omega (arith, past_last T c.loop-place.place none, c.loop-place-test.true, c.len-place-end.ensures.len)

pub loop-place-preserved : goal.loop-place-preserved
loop-place-preserved c =
    let T = c.args.trace.now.run in
    let stands : step_at T c.loop-place.place ≡ Some c.in-Some.step.now = sym c.in-Some.ensures in
    rw add-one
    (survey_next T c.len-place-end.ensures.well_formed (opening_states c.args.starts.now) c.loop-place.place c.in-Some.step.now c.loop-place.survey.states.records c.note.new.self.states.records c.loop-place.survey.counts c.note.new.self.counts stands c.in_ok-note-in-Some.ensures c.loop-place.invariant)

pub returns-clause-survey : goal.returns-clause-survey
returns-clause-survey c =
    let T = c.args.trace.now.run in
    survey_whole T c.len-place-end.ensures.well_formed (opening_states c.args.starts.now) c.loop-place.place c.loop-place.survey.states.records c.loop-place.survey.counts (omega (arith, c.loop-place-test.false, c.loop-place.auto.place-end, c.len-place-end.ensures.len)) c.loop-place.invariant
