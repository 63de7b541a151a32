use Rattle.tau_text.specs.Faults.{HasFault, ProgramFault, IsProgramFault}
use Rattle.tau_text.specs.Meaning.{IsProgram}
use Rattle.tau_text.specs.Inner.Surveyed.{NoFault}
use Rattle.tau_text.proofs.AnswerLemmas.{kept_error, none_answered, fault_answered, no_answer}
use Rattle.tau_text.proofs.FaultLemmas.{program_unique}
use Rattle.tau_text.proofs.SurveyLemmas.{any_fault}
use Rattle.tau_text.proofs.reading.read_program.Goals as goal

pub returns-in_err-survey-clause-fault : goal.returns-in_err-survey-clause-fault
returns-in_err-survey-clause-fault c =
    let bytes = c.args.bytes.now in
    kept_error (HasFault NoFault bytes) (IsProgramFault bytes) c.from_residual.result c.in_err-survey.field-0.0 c.from_residual.ensures.1 (any_fault ProgramFault bytes) c.in_err-survey.ensures.fault

pub returns-in_err-survey-clause-faulty : goal.returns-in_err-survey-clause-faulty
returns-in_err-survey-clause-faulty c fault at h =
    let bytes = c.args.bytes.now in
    let told = kept_error (HasFault NoFault bytes) (IsProgramFault bytes) c.from_residual.result c.in_err-survey.field-0.0 c.from_residual.ensures.1 (any_fault ProgramFault bytes) c.in_err-survey.ensures.fault in
    let none = no_answer (IsProgram bytes) _ c.from_residual.result c.from_residual.ensures.1 in
    fault_answered (IsProgram bytes) (IsProgramFault bytes) (λ p. p) c.from_residual.result (program_unique bytes) none told fault at h

pub returns-in_err-survey-clause-read : goal.returns-in_err-survey-clause-read
returns-in_err-survey-clause-read c p m =
    let bytes = c.args.bytes.now in
    let told = kept_error (HasFault NoFault bytes) (IsProgramFault bytes) c.from_residual.result c.in_err-survey.field-0.0 c.from_residual.ensures.1 (any_fault ProgramFault bytes) c.in_err-survey.ensures.fault in
    none_answered (IsProgram bytes) (IsProgramFault bytes) c.from_residual.result (program_unique bytes) told p m

pub returns-clause-read : goal.returns-clause-read
returns-clause-read c p m =
    let bytes = c.args.bytes.now in
    none_answered (IsProgram bytes) (IsProgramFault bytes) c.program_built.result (program_unique bytes) c.program_built.ensures.fault p m

pub returns-clause-faulty : goal.returns-clause-faulty
returns-clause-faulty c fault at h =
    let bytes = c.args.bytes.now in
    fault_answered (IsProgram bytes) (IsProgramFault bytes) (λ p. p) c.program_built.result (program_unique bytes) c.program_built.ensures.program c.program_built.ensures.fault fault at h
