use Rattle.tau_past.specs.Tables.{TellsTurn}
use Rattle.tau_past.proofs.NextTables.{lists_push, idle_told}
use Rattle.tau_past.proofs.index.idle_turns.Goals as goal

pub loop-who-preserved : goal.loop-who-preserved
loop-who-preserved c =
    let T = c.args.trace.now.run in
    lists_push _ (TellsTurn T 0) _ _ _ c.in_ok-push.ensures.items (idle_told T c.loop-who._who) c.loop-who.invariant
