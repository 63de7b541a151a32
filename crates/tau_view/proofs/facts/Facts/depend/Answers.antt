use Rattle.std.proofs.Common.{ap, ◌∙◌}
use Rattle.tau_view.specs.Rules.{depended}
use Rattle.tau_view.specs.Stored.{held}
use Rattle.tau_view.proofs.Operations.{depended_is}
use Rattle.tau_view.proofs.facts.Facts.depend.Goals as goal

pub returns-clause-ok : goal.returns-clause-ok
returns-clause-ok c =
    depended_is (record { histories = c.self.inside.histories; edges = c.self.inside.edges; roots = c.self.inside.roots }) c.in_ok-edges.edges c.union.new.self c.args.from c.in_ok-edges.ensures c.in_ok-union.ensures.members
    ∙ ap (λ s. depended c.args.from (held s)) c.self.view_is
