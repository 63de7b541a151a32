use Rattle.std.proofs.Common.{◌≡◌, sym, ap, ◌∙◌, inl, inr, ⊎_elim}
use Rattle.tau_view.specs.Rules.{depended}
use Rattle.tau_view.specs.Stored.{held}
use Rattle.tau_compact.proofs.Calls.{pruned, is_pruned, depend_past, depend_live}
use Rattle.tau_compact.proofs.pruned.PrunedViewView.depend.Goals as goal

-- what is held after the edges were added
after : (c : goal.In_ok-depend-in_default) → held c.depend.new.self ≡ pruned (depended c.args.from (held c.self.inside.facts))
after c =
    c.in_ok-depend-in_default.ensures.ok
    ∙ depend_live (held c.self.inside.facts) c.self.invariant c.args.from (λ e. c.in_default.not-Closed (c.fate_of.ensures ∙ e)) (λ e. c.in_default.not-Fallen (c.fate_of.ensures ∙ e))

pub invariant_of-self-in_default : goal.invariant_of-self-in_default
invariant_of-self-in_default c = is_pruned c.depend.new.self _ (after c)

pub returns-in_ok-depend-in_default : goal.returns-in_ok-depend-in_default
returns-in_ok-depend-in_default c = record { ok = after c ∙ ap (λ s. pruned (depended c.args.from (held s))) c.self.view_is; err = tt }

pub returns-in-Closed-clause-ok : goal.returns-in-Closed-clause-ok
returns-in-Closed-clause-ok c =
    let past = ⊎_elim (λ e. inl (sym c.fate_of.ensures ∙ e)) (λ e. inr (sym c.fate_of.ensures ∙ e)) c.in-Closed.is in
    ap held (sym c.self.view_is) ∙ depend_past (held c.self.inside.facts) c.self.invariant c.args.from past ∙ ap (λ s. pruned (depended c.args.from (held s))) c.self.view_is
