use Rattle.std.proofs.Common.{[], ◌∷◌, ◌++◌, ap, ◌∙◌}
use Rattle.tau_forms.proofs.DefinedLemmas.{with_known, with_new}
use Rattle.tau_forms.proofs.tables.add.Goals as goal

pub returns-then-is_some : goal.returns-then-is_some
returns-then-is_some c = with_known c.args.names.now c.args.name.now c.find.result c.is_some.result c.find.ensures c.is_some.ensures c.if-is_some.true

pub returns-in-Ok : goal.returns-in-Ok
returns-in-Ok c = with_new c.args.names.now c.push.new.self c.args.name.now c.find.result c.is_some.result c.find.ensures c.is_some.ensures c.if-is_some.false (c.in-Ok.ensures.ok ∙ ap (λ w. c.args.names.now ++ w ∷ []) c.in_ok-copy.ensures)
