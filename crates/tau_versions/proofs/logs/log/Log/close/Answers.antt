use Rattle.std.proofs.Common.{◌++◌, ◌∷◌, [], sym, ap, ◌∙◌}
use Rattle.tau_versions.proofs.Telling.{log_goes_on}
use Rattle.tau_versions.proofs.logs.log.Log.close.Goals as goal

pub returns-clause-tells : goal.returns-clause-tells
returns-clause-tells c = λ T u n from tells grown x.
    log_goes_on T u n c.args.self.now _ c.args.version (c.push_reserved-2.ensures.items ∙ ap (λ s. s.versions ++ c.args.version ∷ []) c.self.view_is) from tells
    (c.push_reserved.ensures.items ∙ ap (λ s. s.closed ++ c.args.incarnation ∷ []) c.self.view_is ∙ ap (λ xs. xs ++ c.args.incarnation ∷ []) x.closed_is ∙ sym grown) x
