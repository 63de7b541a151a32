use Rattle.std.proofs.Common.{◌≡◌, true, false, sym, subst, ◌∙◌}
use Rattle.std.specs.Prelude.{IfSome}
use Rattle.std.proofs.lemmas.Result.{IfOk-weaker}
use Rattle.tau_text.specs.Faults.{HasFault, PartsFault, IsProgramFault, IsPrintFault}
use Rattle.tau_text.specs.Meaning.{IsProgram, IsRunInput, IsPrintInput}
use Rattle.tau_text.specs.Parts.{has_trace}
use Rattle.tau_text.specs.Inner.Surveyed.{NoFault}
use Rattle.tau_text.proofs.AnswerLemmas.{kept_error, same_more, none_answered, fault_answered, no_answer}
use Rattle.tau_text.proofs.FaultLemmas.{print_unique}
use Rattle.tau_text.proofs.PartialLemmas.{printed_run}
use Rattle.tau_text.proofs.SurveyLemmas.{any_fault, unmarked_program, unmarked_fault}
use Rattle.tau_text.proofs.reading.read_printed.Goals as goal

pub returns-in-Some-clause-faulty : goal.returns-in-Some-clause-faulty
returns-in-Some-clause-faulty c fault at h =
    let bytes = c.args.bytes.now in
    let text = c.in-Some.text in
    let meant = subst (λ o. IfSome o (λ r. IsRunInput bytes r.program r.trace.run)) c.in-Some.is c.in_ok-text.ensures.text in
    absurd ((print_unique bytes).not_both text.program fault at (printed_run bytes text.program text.trace.run meant) h)

pub returns-in_err-survey-clause-fault : goal.returns-in_err-survey-clause-fault
returns-in_err-survey-clause-fault c =
    let bytes = c.args.bytes.now in
    kept_error (HasFault NoFault bytes) (IsPrintFault bytes) c.from_residual-in_err-survey.result c.in_err-survey.field-0.0 c.from_residual-in_err-survey.ensures.1 (any_fault PartsFault bytes) c.in_err-survey.ensures.fault

pub returns-in_err-survey-clause-read : goal.returns-in_err-survey-clause-read
returns-in_err-survey-clause-read c p m =
    let bytes = c.args.bytes.now in
    none_answered (IsPrintInput bytes) (IsPrintFault bytes) c.from_residual-in_err-survey.result (print_unique bytes) (returns-in_err-survey-clause-fault c) p m

pub returns-in_err-survey-clause-faulty : goal.returns-in_err-survey-clause-faulty
returns-in_err-survey-clause-faulty c fault at h =
    let bytes = c.args.bytes.now in
    let none = no_answer (IsPrintInput bytes) _ c.from_residual-in_err-survey.result c.from_residual-in_err-survey.ensures.1 in
    fault_answered (IsPrintInput bytes) (IsPrintFault bytes) (λ p. p) c.from_residual-in_err-survey.result (print_unique bytes) none (returns-in_err-survey-clause-fault c) fault at h

-- with `(trace)` among the forms
pub marked_program-requires : goal.marked_program-requires
marked_program-requires c =
    let s = c.in_ok-survey.ensures.survey in
    record { forms = s.forms; spelled = s.spelled; marked = sym s.survey.marked ∙ c.if-survey.true }

pub returns-then-survey-clause-read : goal.returns-then-survey-clause-read
returns-then-survey-clause-read c p m =
    let bytes = c.args.bytes.now in
    none_answered (IsPrintInput bytes) (IsPrintFault bytes) c.marked_program.result (print_unique bytes) c.marked_program.ensures.fault p m

pub returns-then-survey-clause-faulty : goal.returns-then-survey-clause-faulty
returns-then-survey-clause-faulty c fault at h =
    let bytes = c.args.bytes.now in
    fault_answered (IsPrintInput bytes) (IsPrintFault bytes) (λ p. p) c.marked_program.result (print_unique bytes) c.marked_program.ensures.program c.marked_program.ensures.fault fault at h

-- without it
pub returns-clause-program : goal.returns-clause-program
returns-clause-program c =
    let bytes = c.args.bytes.now in
    let s = c.in_ok-survey.ensures.survey in
    let none : has_trace s.forms ≡ false = sym s.survey.marked ∙ c.if-survey.false in
    IfOk-weaker c.program_built.result (IsProgram bytes) (IsPrintInput bytes) (unmarked_program bytes s.forms s.spelled none) c.program_built.ensures.program

pub returns-clause-fault : goal.returns-clause-fault
returns-clause-fault c =
    let bytes = c.args.bytes.now in
    let s = c.in_ok-survey.ensures.survey in
    let none : has_trace s.forms ≡ false = sym s.survey.marked ∙ c.if-survey.false in
    same_more (IsProgramFault bytes) (IsPrintFault bytes) c.program_built.result (unmarked_fault bytes s.forms s.spelled none) c.program_built.ensures.fault

pub returns-clause-read : goal.returns-clause-read
returns-clause-read c p m =
    let bytes = c.args.bytes.now in
    none_answered (IsPrintInput bytes) (IsPrintFault bytes) c.program_built.result (print_unique bytes) (returns-clause-fault c) p m

pub returns-clause-faulty : goal.returns-clause-faulty
returns-clause-faulty c fault at h =
    let bytes = c.args.bytes.now in
    fault_answered (IsPrintInput bytes) (IsPrintFault bytes) (λ p. p) c.program_built.result (print_unique bytes) (returns-clause-program c) (returns-clause-fault c) fault at h
