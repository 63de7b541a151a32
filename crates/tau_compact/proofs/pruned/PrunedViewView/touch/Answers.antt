use Rattle.std.proofs.Common.{◌≡◌, sym, ap, ◌∙◌}
use Rattle.tau_view.specs.Rules.{touched}
use Rattle.tau_view.specs.Stored.{held}
use Rattle.tau_compact.proofs.Calls.{pruned, is_pruned, touch_live}
use Rattle.tau_compact.proofs.pruned.PrunedViewView.touch.Goals as goal

-- what is held after the point was added
after : (c : goal.In_ok-touch-in_default) → held c.touch.new.self ≡ pruned (touched c.args.point (held c.self.inside.facts))
after c =
    c.in_ok-touch-in_default.ensures.ok
    ∙ touch_live (held c.self.inside.facts) c.self.invariant c.args.point (λ e. c.in_default.not-Closed (c.fate_of.ensures ∙ e))

pub invariant_of-self-in_default : goal.invariant_of-self-in_default
invariant_of-self-in_default c = is_pruned c.touch.new.self _ (after c)

pub returns-in_ok-touch-in_default : goal.returns-in_ok-touch-in_default
returns-in_ok-touch-in_default c = record { ok = after c ∙ ap (λ s. pruned (touched c.args.point (held s))) c.self.view_is; err = tt }
