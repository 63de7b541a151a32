use Rattle.std.proofs.Common.{◌≡◌, true, ap, ◌∙◌}
use Rattle.tau_text.specs.Faults.{PartsFault, MarkedFault}
use Rattle.tau_text.specs.Parts.{has_trace}
use Rattle.tau_text.proofs.AnswerLemmas.{from_bytes, from_forms, kept_error}
use Rattle.tau_text.proofs.SurveyLemmas.{same_forms, parts_fault}
use Rattle.tau_text.proofs.reading.marked_program.Goals as goal

pub returns-in_err-forms-clause-fault : goal.returns-in_err-forms-clause-fault
returns-in_err-forms-clause-fault c =
    from_bytes PartsFault c.from_residual.result c.args.bytes.now c.in_err-forms.field-0.0 c.from_residual.ensures.1 c.in_err-forms.ensures.faulty

pub returns-in_err-text-clause-fault : goal.returns-in_err-text-clause-fault
returns-in_err-text-clause-fault c =
    let bytes = c.args.bytes.now in
    let forms = c.in_ok-forms.forms in
    let spelled = c.in_ok-forms.ensures.spelled in
    let there : has_trace forms ≡ true = ap has_trace (same_forms bytes forms c.requires.forms spelled c.requires.spelled) ∙ c.requires.marked in
    from_forms PartsFault c.from_residual-in_err-text.result bytes forms spelled
    (kept_error (MarkedFault forms) (PartsFault forms) c.from_residual-in_err-text.result c.in_err-text.field-0.0 c.from_residual-in_err-text.ensures.1 (parts_fault forms there) c.in_err-text.ensures.fault)

pub returns-clause-program : goal.returns-clause-program
returns-clause-program c =
    record { forms = c.in_ok-forms.forms; spelled = c.in_ok-forms.ensures.spelled; run = c.in_ok-text.text.trace.run; means = c.in_ok-text.ensures.means.1 }
