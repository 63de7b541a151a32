use Rattle.std.proofs.Common.{ap, ◌∙◌}
use Rattle.tau_view.specs.Rules.{with_roots}
use Rattle.tau_view.specs.Trim.{roots_kept}
use Rattle.tau_view.specs.Stored.{Stored, held, history_in, point_in}
use Rattle.tau_compact.specs.Pruning.{prunes_root}
use Rattle.tau_compact.proofs.Calls.{is_pruned, taken_roots}
use Rattle.tau_compact.proofs.pruned.PrunedViewView.take_roots.Goals as goal

pub invariant_of-self-2 : goal.invariant_of-self-2
invariant_of-self-2 c =
    let kept = λ (s : Stored). with_roots (roots_kept prunes_root (history_in s.histories) (point_in s.roots)) (held s) in
    is_pruned c.drop_roots_by.new.self _
    (c.drop_roots_by.ensures ∙ ap kept c.in_ok-take_roots.ensures.ok
    ∙ taken_roots (held c.self.inside.facts) c.self.invariant (point_in c.other.inside.facts.roots))
