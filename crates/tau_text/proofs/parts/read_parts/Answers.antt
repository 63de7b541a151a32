use Rattle.tau_script.specs.Openings.{program_opening}
use Rattle.tau_text.specs.Faults.{ProgramFault, StepsFault, PartsFault, in_program, in_steps}
use Rattle.tau_text.specs.Parts.{program_forms, step_forms}
use Rattle.tau_text.proofs.AnswerLemmas.{kept_error}
use Rattle.tau_text.proofs.parts.read_parts.Goals as goal

pub returns-in_err-program-clause-fault : goal.returns-in_err-program-clause-fault
returns-in_err-program-clause-fault c =
    let forms = c.args.forms.now in
    kept_error (ProgramFault (program_forms forms)) (PartsFault forms) c.from_residual.result c.in_err-program.field-0.0 c.from_residual.ensures.1 (λ a b h. in_program h) c.in_err-program.ensures.fault

pub returns-in_err-trace-clause-fault : goal.returns-in_err-trace-clause-fault
returns-in_err-trace-clause-fault c =
    let forms = c.args.forms.now in
    let program = c.in_ok-program.program in
    kept_error (StepsFault (program_opening program) (step_forms forms)) (PartsFault forms) c.from_residual-in_err-trace.result c.in_err-trace.field-0.0 c.from_residual-in_err-trace.ensures.1
    (λ a b h. in_steps program c.in_ok-program.ensures.program h) c.in_err-trace.ensures.fault
