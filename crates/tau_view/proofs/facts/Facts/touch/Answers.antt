use Rattle.std.proofs.Common.{ap, ◌∙◌}
use Rattle.tau_view.specs.Rules.{touched}
use Rattle.tau_view.specs.Stored.{held}
use Rattle.tau_view.proofs.Operations.{touched_is}
use Rattle.tau_view.proofs.facts.Facts.touch.Goals as goal

pub returns-clause-ok : goal.returns-clause-ok
returns-clause-ok c =
    touched_is (record { histories = c.self.inside.histories; edges = c.self.inside.edges; roots = c.self.inside.roots }) c.insert.new.self c.args.point c.in_ok-insert.ensures.members
    ∙ ap (λ s. touched c.args.point (held s)) c.self.view_is
