-- A text tells one program and one run.
use Rattle.std.proofs.Common.{◌≡◌, ◌∷◌, ◌++◌, sym, ap, ◌∙◌, subst}
use Rattle.std.specs.Prelude.{slice_get}
use Rattle.tau_sexpr.proofs.LawLemmas.{once}
use Rattle.tau_forms.specs.Printed as program_forms
use Rattle.tau_forms.specs.Meaning.{Means}
use Rattle.tau_forms.proofs.ReadBackUnique.{one_program}
use Rattle.tau_steps.proofs.StepFormLemmas.{forms_tell}
use Rattle.tau_script.specs.Openings.{program_opening}
use Rattle.tau_text.specs.RunText.{trace_mark, report_mark}
use Rattle.tau_text.specs.Laws.{RunTextsTell}
use Rattle.tau_text.proofs.MarkedForms.{cut_once, program_unmarked, steps_unmarked}

pub texts_tell : RunTextsTell
texts_tell P Q T U text a b =
    let one = a.read_back.are in
    let two = b.read_back.are in
    let forms : a.read_back.forms ≡ b.read_back.forms = once text a.read_back.forms b.read_back.forms a.read_back.spelled b.read_back.spelled in
    let at_trace = cut_once trace_mark (program_forms.printed P) (program_forms.printed Q) (one.steps ++ (report_mark ∷ one.report)) (two.steps ++ (report_mark ∷ two.report)) (program_unmarked P) (program_unmarked Q) (sym one.are ∙ forms ∙ two.are) in
    let at_report = cut_once report_mark one.steps two.steps one.report two.report (steps_unmarked T one.steps one.steps_are) (steps_unmarked U two.steps two.steps_are) at_trace.1 in
    let program : P ≡ Q = one_program (program_forms.printed P) P Q a.read_back.program (subst (λ fs. Means fs Q) (sym at_trace.0) b.read_back.program) in
    let opening : T.opening ≡ U.opening = a.opening ∙ ap program_opening program ∙ sym b.opening in
    (program, forms_tell T U a.well_formed b.well_formed a.read_back.values b.read_back.values opening (λ k. sym (one.steps_are k) ∙ ap (λ fs. slice_get fs k) at_report.0 ∙ two.steps_are k))
