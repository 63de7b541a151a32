use Rattle.std.proofs.Common.{ap, length, ◌∙◌}
use Rattle.tau_past.specs.Tables.{TellsHistory}
use Rattle.tau_past.proofs.NextTables.{lists_push, history_told}
use Rattle.tau_past.proofs.index.opening_histories.Goals as goal

pub loop-who-preserved : goal.loop-who-preserved
loop-who-preserved c =
    let T = c.args.trace.now.run in
    lists_push _ (TellsHistory T 0) _ _ _ c.in_ok-push.ensures.items
    (history_told T c.loop-who.who _ _ (c.len-starts.ensures ∙ ap (λ o. length o.names) c.opening.ensures.value) c.in_ok-opening_history.ensures) c.loop-who.invariant
