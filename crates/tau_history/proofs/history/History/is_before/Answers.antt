use Rattle.std.proofs.Common.{◌≡◌, not, false, sym, ap, ◌∙◌}
use Rattle.tau_history.proofs.Before.{before_by_interval, before_by_incarnation, before_by_mode}
use Rattle.tau_history.proofs.history.History.is_before.Goals as goal

pub returns-then-interval-clause-before : goal.returns-then-interval-clause-before
returns-then-interval-clause-before c =
    before_by_interval c.args.self.now.history c.args.other.now.history c.requires
    c.interval-then-interval.result c.interval-then-interval-2.result c.interval-then-interval.ensures c.interval-then-interval-2.ensures
    (λ e. c.if-interval.true (c.interval.ensures ∙ sym c.interval-then-interval.ensures ∙ e ∙ c.interval-then-interval-2.ensures ∙ sym c.interval-2.ensures))

pub returns-then-self-other-clause-before : goal.returns-then-self-other-clause-before
returns-then-self-other-clause-before c =
    before_by_incarnation c.args.self.now.history c.args.other.now.history c.requires
    (sym c.interval.ensures ∙ c.if-interval.false ∙ c.interval-2.ensures)
    c.self.inside.last c.other.inside.last (ap (λ v. v.history.last) c.self.view_is) (ap (λ v. v.history.last) c.other.view_is) c.if-self-other.true

pub returns-then-not-self-clause-before : goal.returns-then-not-self-clause-before
returns-then-not-self-clause-before c =
    let by_mode = before_by_mode c.args.self.now.history c.args.other.now.history c.requires
    (sym c.interval.ensures ∙ c.if-interval.false ∙ c.interval-2.ensures)
    (sym (ap (λ v. v.history.last) c.self.view_is) ∙ c.if-self-other.false ∙ ap (λ v. v.history.last) c.other.view_is) in
    let own = ap (λ v. v.history.stable) c.self.view_is in
    let others = ap (λ v. v.history.stable) c.other.view_is in
    (λ t. by_mode.1 (sym own ∙ c.if-not-self.true, sym others ∙ t), λ p. others ∙ (by_mode.0 p).1)

pub returns-else-not-self-clause-before : goal.returns-else-not-self-clause-before
returns-else-not-self-clause-before c =
    let by_mode = before_by_mode c.args.self.now.history c.args.other.now.history c.requires
    (sym c.interval.ensures ∙ c.if-interval.false ∙ c.interval-2.ensures)
    (sym (ap (λ v. v.history.last) c.self.view_is) ∙ c.if-self-other.false ∙ ap (λ v. v.history.last) c.other.view_is) in
    let own = ap (λ v. v.history.stable) c.self.view_is in
    let volatile : not c.self.inside.stable ≡ false = ap not c.if-not-self.false in
    (λ t. absurd (cc), λ p. let q = sym own ∙ c.if-not-self.false in let r = (by_mode.0 p).0 in absurd (cc))
