use Rattle.std.proofs.Common.{subst}
use Rattle.std.specs.Prelude.{IfSome}
use Rattle.std.proofs.lemmas.Result.{IfOk-weaker}
use Rattle.tau_text.specs.Faults.{MarkedFault, IsRunFault}
use Rattle.tau_text.specs.Meaning.{IsRunInput, MeansMarkedRun}
use Rattle.tau_text.specs.InputLaws.{IsRunInputOf}
use Rattle.tau_text.proofs.AnswerLemmas.{from_bytes, from_forms, none_answered, fault_answered, no_answer}
use Rattle.tau_text.proofs.FaultLemmas.{run_unique}
use Rattle.tau_text.proofs.reading.read_run_text.Goals as goal

pub returns-in-Some-clause-faulty : goal.returns-in-Some-clause-faulty
returns-in-Some-clause-faulty c fault at h =
    let bytes = c.args.bytes.now in
    let text = c.in-Some.text in
    let meant = subst (λ o. IfSome o (λ r. IsRunInput bytes r.program r.trace.run)) c.in-Some.is c.in_ok-text.ensures.text in
    absurd ((run_unique bytes).not_both (text.program, text.trace.run) fault at meant h)

pub returns-in_err-forms-clause-fault : goal.returns-in_err-forms-clause-fault
returns-in_err-forms-clause-fault c =
    from_bytes MarkedFault c.from_residual-in_err-forms.result c.args.bytes.now c.in_err-forms.field-0.0 c.from_residual-in_err-forms.ensures.1 c.in_err-forms.ensures.faulty

pub returns-in_err-forms-clause-faulty : goal.returns-in_err-forms-clause-faulty
returns-in_err-forms-clause-faulty c fault at h =
    let bytes = c.args.bytes.now in
    let told = from_bytes MarkedFault c.from_residual-in_err-forms.result bytes c.in_err-forms.field-0.0 c.from_residual-in_err-forms.ensures.1 c.in_err-forms.ensures.faulty in
    let none = no_answer (λ r. IsRunInput bytes r.program r.trace.run) _ c.from_residual-in_err-forms.result c.from_residual-in_err-forms.ensures.1 in
    fault_answered (IsRunInputOf bytes) (IsRunFault bytes) (λ r. (r.program, r.trace.run)) c.from_residual-in_err-forms.result (run_unique bytes) none told fault at h

pub returns-clause-read : goal.returns-clause-read
returns-clause-read c p T m =
    let bytes = c.args.bytes.now in
    let told = from_forms MarkedFault c.marked_text.result bytes c.in_ok-forms.forms c.in_ok-forms.ensures.spelled c.marked_text.ensures.fault in
    none_answered (IsRunInputOf bytes) (IsRunFault bytes) c.marked_text.result (run_unique bytes) told (p, T) m

pub returns-clause-fault : goal.returns-clause-fault
returns-clause-fault c = from_forms MarkedFault c.marked_text.result c.args.bytes.now c.in_ok-forms.forms c.in_ok-forms.ensures.spelled c.marked_text.ensures.fault

pub returns-clause-faulty : goal.returns-clause-faulty
returns-clause-faulty c fault at h =
    let bytes = c.args.bytes.now in
    let forms = c.in_ok-forms.forms in
    let spelled = c.in_ok-forms.ensures.spelled in
    let told = from_forms MarkedFault c.marked_text.result bytes forms spelled c.marked_text.ensures.fault in
    let meant = IfOk-weaker c.marked_text.result (λ r. MeansMarkedRun forms r.program r.trace.run) (λ r. IsRunInput bytes r.program r.trace.run) (λ r m. record { forms = forms; spelled = spelled; means = m }) c.marked_text.ensures.means in
    fault_answered (IsRunInputOf bytes) (IsRunFault bytes) (λ r. (r.program, r.trace.run)) c.marked_text.result (run_unique bytes) meant told fault at h
