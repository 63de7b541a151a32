use Rattle.std.proofs.Common.{◌∙◌}
use Rattle.std.proofs.lemmas.Result.{IfOk-weaker}
use Rattle.tau_sexpr.specs.Form.{tree_of}
use Rattle.tau_scene.proofs.StepTexts.{step_whole, step_bracketed}
use Rattle.tau_scene.proofs.words.steps.step_printed.Goals as goal

pub returns-clause-text : goal.returns-clause-text
returns-clause-text c =
    IfOk-weaker c.printed.result _ _ (λ v e. e ∙ step_whole c.args.trace.now.run c.args.place (tree_of c.in_ok-form.form) c.in_ok-form.ensures.form) c.printed.ensures

pub returns-clause-brackets : goal.returns-clause-brackets
returns-clause-brackets c =
    IfOk-weaker c.printed.result _ _ (λ v e. e ∙ step_bracketed c.args.trace.now.run c.args.place (tree_of c.in_ok-form.form) c.in_ok-form.ensures.form) c.printed.ensures
