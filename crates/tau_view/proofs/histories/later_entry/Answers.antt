use Rattle.std.proofs.Common.{◌≡◌, ◌∙◌, sym, subst}
use Rattle.std.specs.Prelude.{IfOk}
use Rattle.tau_view.proofs.Later.{later-then, later-else}
use Rattle.tau_view.proofs.histories.later_entry.Goals as goal

pub returns-then-is_before-clause-history : goal.returns-then-is_before-clause-history
returns-then-is_before-clause-history c =
    c.in_ok-history.ensures ∙ sym (later-then c.args.ours.now.history.history c.args.theirs.now.history.history (sym c.is_before.ensures.rank ∙ c.if-is_before.true))

pub returns-clause-history : goal.returns-clause-history
returns-clause-history c =
    let kept = later-else c.args.ours.now.history.history c.args.theirs.now.history.history (sym c.is_before.ensures.rank ∙ c.if-is_before.false) in
    subst (λ t. IfOk c.copy-2.result (λ e. e.history.history ≡ t)) (sym kept) c.copy-2.ensures.history
