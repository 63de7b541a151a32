use Rattle.std.proofs.Common.{◌++◌, ◌∷◌, [], sym, ap, ◌∙◌}
use Rattle.tau_versions.proofs.Telling.{log_goes_on}
use Rattle.tau_versions.proofs.logs.log.Log.push.Goals as goal

pub returns-clause-tells : goal.returns-clause-tells
returns-clause-tells c = λ T u n from tells same x.
    log_goes_on T u n c.args.self.now _ c.args.version (c.push_reserved.ensures.items ∙ ap (λ s. s.versions ++ c.args.version ∷ []) c.self.view_is) from tells (ap (λ s. s.closed) c.self.view_is ∙ x.closed_is ∙ sym same) x
