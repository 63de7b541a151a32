use Rattle.std.proofs.Common.{nat_lt, nat_le, not, sym, ap, ◌∙◌, arith}
use Rattle.std.specs.Prelude.{slice_get}
use Rattle.tau_history.proofs.Precedence.{Tells, tells_longer, tells_shorter, tells_incarnation, tells_mode}
use Rattle.tau_history.proofs.history.History.may_precede.Goals as goal
use Rattle.tau_history.proofs.history.History.may_precede.Goals.{After-at, Then-self-later, Then-not-self, Else-not-self}

pub returns-then-others-own-clause-needed : goal.returns-then-others-own-clause-needed
returns-then-others-own-clause-needed c = (tells_longer c.args.self.now.history c.args.later.now.history (omega arith)).needed

shorter : (c : After-at) → Tells (nat_le c.self.inside.last c.at.result) c.args.self.now.history c.args.later.now.history
shorter c =
    tells_shorter c.args.self.now.history c.args.later.now.history c.self.inside.last c.at.result (omega arith) (ap (λ v. v.history.last) c.self.view_is)
    (ap (slice_get c.args.later.now.history.closed) (sym c.interval-own.ensures) ∙ ap (λ v. slice_get v.history.closed c.interval-own.result) (sym c.later.view_is) ∙ c.at.ensures)

pub returns-then-own-others-clause-needed : goal.returns-then-own-others-clause-needed
returns-then-own-others-clause-needed c = (shorter c).needed

pub returns-then-own-others-clause-suffices : goal.returns-then-own-others-clause-suffices
returns-then-own-others-clause-suffices c = (shorter c).suffices

incarnation : (c : Then-self-later) → Tells (nat_lt c.self.inside.last c.later.inside.last) c.args.self.now.history c.args.later.now.history
incarnation c =
    tells_incarnation c.args.self.now.history c.args.later.now.history c.self.inside.last c.later.inside.last
    (omega arith)
    (ap (λ v. v.history.last) c.self.view_is) (ap (λ v. v.history.last) c.later.view_is) c.if-self-later.true

pub returns-then-self-later-clause-needed : goal.returns-then-self-later-clause-needed
returns-then-self-later-clause-needed c = (incarnation c).needed

pub returns-then-self-later-clause-suffices : goal.returns-then-self-later-clause-suffices
returns-then-self-later-clause-suffices c = (incarnation c).suffices

volatile : (c : Then-not-self) → Tells (not c.self.inside.stable) c.args.self.now.history c.args.later.now.history
volatile c =
    let own = sym (ap (λ v. v.history.stable) c.self.view_is) ∙ c.if-not-self.true in
    tells_mode c.args.self.now.history c.args.later.now.history (not c.self.inside.stable) (omega arith)
    (sym (ap (λ v. v.history.last) c.self.view_is) ∙ c.if-self-later.false ∙ ap (λ v. v.history.last) c.later.view_is)
    (λ t h. absurd (cc), λ _. ap not c.if-not-self.true)

pub returns-then-not-self-clause-suffices : goal.returns-then-not-self-clause-suffices
returns-then-not-self-clause-suffices c = (volatile c).suffices

stable : (c : Else-not-self) → Tells c.later.inside.stable c.args.self.now.history c.args.later.now.history
stable c =
    let own = sym (ap (λ v. v.history.stable) c.self.view_is) ∙ c.if-not-self.false in
    let others = ap (λ v. v.history.stable) c.later.view_is in
    tells_mode c.args.self.now.history c.args.later.now.history c.later.inside.stable (omega arith)
    (sym (ap (λ v. v.history.last) c.self.view_is) ∙ c.if-self-later.false ∙ ap (λ v. v.history.last) c.later.view_is)
    (λ t h. sym others ∙ t, λ s. others ∙ s own)

pub returns-else-not-self-clause-needed : goal.returns-else-not-self-clause-needed
returns-else-not-self-clause-needed c = (stable c).needed

pub returns-else-not-self-clause-suffices : goal.returns-else-not-self-clause-suffices
returns-else-not-self-clause-suffices c = (stable c).suffices
