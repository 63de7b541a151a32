use Rattle.std.proofs.Common.{map}
use Rattle.tau_sexpr.specs.Form.{tree_of}
use Rattle.tau_text.proofs.AnswerLemmas.{from_program}
use Rattle.tau_text.proofs.parts.program_meant.Goals as goal

pub returns-in_err-program_of-clause-fault : goal.returns-in_err-program_of-clause-fault
returns-in_err-program_of-clause-fault c =
    from_program c.from_residual.result (map tree_of c.args.forms.now) c.in_err-program_of.field-0.0 c.from_residual.ensures.1 c.in_err-program_of.ensures.fault
