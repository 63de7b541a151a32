use Rattle.std.proofs.Common.{List, map, take, sym, ap, ◌∙◌}
use Rattle.std.proofs.lemmas.List.{take-map}
use Rattle.tau_value.specs.Value.{val_of}
use Rattle.tau_eval.proofs.scopes.Scope.cut.Goals as goal

pub returns : goal.returns
returns c =
    ap (map (λ b. (b.name.now, val_of b.value))) c.truncate.ensures.items ∙ sym (take-map (λ b. (b.name.now, val_of b.value)) c.args.height c.self.inside.bindings.items) ∙ ap (take c.args.height) c.self.view_is
