use Rattle.std.proofs.Common.{◌≡◌, ap, sym, ◌∙◌}
use Rattle.tau_view.specs.Rules.{merged}
use Rattle.tau_view.specs.Stored.{held, Stored}
use Rattle.tau_view.proofs.Operations.{merged_is}
use Rattle.tau_view.proofs.facts.Facts.merge_facts.Goals as goal

pub returns-clause-ok : goal.returns-clause-ok
returns-clause-ok c =
    let own : Stored = record { histories = c.self.inside.histories; edges = c.self.inside.edges; roots = c.self.inside.roots } in
    let others : Stored = record { histories = c.other.inside.histories; edges = c.other.inside.edges; roots = c.other.inside.roots } in
    merged_is own others c.in_ok-histories.histories c.union-2.new.self c.in_ok-histories.ensures c.in_ok-union-2.ensures.members
    ∙ (λ i. merged (held (c.self.view_is i)) (held (c.other.view_is i)))

pub returns-then-covers-clause-ok : goal.returns-then-covers-clause-ok
returns-then-covers-clause-ok c =
    let own : Stored = record { histories = c.self.inside.histories; edges = c.self.inside.edges; roots = c.self.inside.roots } in
    let others : Stored = record { histories = c.other.inside.histories; edges = c.other.inside.edges; roots = c.other.inside.roots } in
    merged_is own others c.self.inside.histories c.union.new.self (sym c.if-covers.ensures) c.in_ok-union.ensures.members
    ∙ (λ i. merged (held (c.self.view_is i)) (held (c.other.view_is i)))
