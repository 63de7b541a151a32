use Rattle.std.proofs.Common.{ℕ, Option, sym, ◌∙◌, subst}
use Rattle.tau_layout.specs.Plans.{IsRank}
use Rattle.tau_layout.proofs.Middles.{column_x, column_near, column_there}
use Rattle.tau_layout.proofs.paths.spots.lane_middle.Goals as goal

pub returns-in_err-rank-clause-x : goal.returns-in_err-rank-clause-x
returns-in_err-rank-clause-x c =
    let none = subst (λ (o : Option ℕ). IsRank c.args.layout.now c.args.who o) c.in_err-rank.was c.rank.ensures in
    rw c.from_residual.ensures (λ x h. none h.rank h.ranked)

pub returns-in_err-column_at-clause-x : goal.returns-in_err-column_at-clause-x
returns-in_err-column_at-clause-x c =
    let plan = c.args.layout.now in
    let ranked = subst (λ (o : Option ℕ). IsRank plan c.args.who o) c.in_ok-rank.was c.rank.ensures in
    rw c.from_residual-in_err-column_at.ensures (λ x h. column_there plan c.columns.result.now c.columns.ensures.lanes c.columns.ensures.columns c.args.who c.in_ok-rank.rank ranked (sym c.column_at.ensures ∙ c.in_err-column_at.was))

pub returns-clause-x : goal.returns-clause-x
returns-clause-x c =
    let plan = c.args.layout.now in
    let ranked = subst (λ (o : Option ℕ). IsRank plan c.args.who o) c.in_ok-rank.was c.rank.ensures in
    column_x plan c.columns.result.now c.columns.ensures.lanes c.columns.ensures.columns c.args.who c.in_ok-rank.rank c.in_ok-column_at.field-0 ranked (sym c.column_at.ensures ∙ c.in_ok-column_at.was)

pub returns-clause-near : goal.returns-clause-near
returns-clause-near c =
    column_near c.args.layout.now c.columns.result.now c.columns.ensures.lanes c.columns.ensures.columns c.in_ok-rank.rank c.in_ok-column_at.field-0 (sym c.column_at.ensures ∙ c.in_ok-column_at.was)
