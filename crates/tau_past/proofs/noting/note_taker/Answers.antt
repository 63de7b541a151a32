use Rattle.tau_past.specs.Tables.{TellsTaker}
use Rattle.tau_past.proofs.NextTables.{lists_push}
use Rattle.tau_past.proofs.noting.note_taker.Goals as goal

pub returns : goal.returns
returns c =
    lists_push c.args.place (TellsTaker c.args.trace.now.run) _ _ c.args.taker c.in_ok-push.ensures.items c.requires.taker c.requires.told
