use Rattle.std.proofs.Common.{◌≡◌}
use Rattle.std.proofs.lemmas.Result.{IfOk-weaker}
use Rattle.tau_sexpr.specs.Form.{tree_of}
use Rattle.tau_sexpr.specs.Tree.{HasWords}
use Rattle.tau_states.specs.Opening.{opening_states}
use Rattle.tau_report.specs.Report.{counts_form}
use Rattle.tau_report.specs.Inner.Rows.{counts_tree}
use Rattle.tau_report.proofs.SavedRows.{counts_told}
use Rattle.tau_report.proofs.writing.counts_form.Goals as goal

pub returns-clause-form : goal.returns-clause-form
returns-clause-form c =
    let survey = c.in_ok-survey.survey in
    let T = c.args.trace.now.run in
    IfOk-weaker c.form_of_counts.result (λ f. tree_of f ≡ counts_tree survey.counts) (λ f. tree_of f ≡ counts_form T)
    (λ f is. (counts_told T (opening_states c.args.program.now.starts) survey.states.records survey.counts (tree_of f) c.in_ok-survey.ensures.well_formed c.in_ok-survey.ensures.survey is).0)
    c.form_of_counts.ensures

pub returns-clause-words : goal.returns-clause-words
returns-clause-words c =
    let survey = c.in_ok-survey.survey in
    let T = c.args.trace.now.run in
    IfOk-weaker c.form_of_counts.result (λ f. tree_of f ≡ counts_tree survey.counts) (λ f. HasWords (tree_of f))
    (λ f is. (counts_told T (opening_states c.args.program.now.starts) survey.states.records survey.counts (tree_of f) c.in_ok-survey.ensures.well_formed c.in_ok-survey.ensures.survey is).1)
    c.form_of_counts.ensures
