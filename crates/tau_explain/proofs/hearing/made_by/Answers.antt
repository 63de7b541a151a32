use Rattle.std.proofs.Common.{sym, ◌∙◌, ap, Some}
use Rattle.tau_trace.specs.declared.step.Step.{Step}
use Rattle.tau_explain.proofs.HearingLemmas.{made_new}
use Rattle.tau_explain.proofs.hearing.made_by.Goals as goal

pub returns-in-New : goal.returns-in-New
returns-in-New c = made_new c.args.trace.now.run c.args.place _ _ _ _ c.made_at.result (sym c.in_ok-step.ensures ∙ ap (λ (s : Step). Some s) c.in-New.is) c.made_at.ensures.exists c.made_at.ensures.made
