use Rattle.std.proofs.Common.{◌++◌, [], arith}
use Rattle.tau_text.specs.Inner.Surveyed.{NoFault}
use Rattle.tau_text.proofs.AnswerLemmas.{from_bytes}
use Rattle.tau_text.proofs.SurveyLemmas.{reads_first, reads_on, first_fault, all_spelled}
use Rattle.tau_text.proofs.programs.survey_of.Goals as goal

pub loop-at-init : goal.loop-at-init
loop-at-init c = record { high = omega arith; before = []; read = reads_first c.args.bytes.now 0; survey = c.new-survey.ensures; front = c.new-front.ensures c.args.bytes.now }

pub loop-at-preserved : goal.loop-at-preserved
loop-at-preserved c =
    let i = c.loop-at.invariant in
    record {
      high = c.in_ok-forms.ensures.within;
      before = i.before ++ c.in_ok-forms.forms;
      read = reads_on c.args.bytes.now 0 c.loop-at.at c.in_ok-forms.next i.before c.in_ok-forms.forms i.read c.in_ok-forms.ensures.read;
      survey = c.in_ok-add.ensures i.before i.survey;
      front = i.front;
    }

pub returns-in_err-forms-clause-fault : goal.returns-in_err-forms-clause-fault
returns-in_err-forms-clause-fault c =
    let i = c.loop-at.invariant in
    let e = c.in_err-forms.field-0.0 in
    from_bytes NoFault c.from_residual.result c.args.bytes.now e c.from_residual.ensures.1 (λ some. first_fault c.args.bytes.now c.loop-at.at i.before e i.read (c.in_err-forms.ensures.fault some))

pub returns-clause-survey : goal.returns-clause-survey
returns-clause-survey c =
    let i = c.loop-at.invariant in
    record { forms = i.before; spelled = all_spelled c.args.bytes.now c.loop-at.at i.before (omega arith) i.read; survey = i.survey }
