use Rattle.tau_past.proofs.NextTables.{carried_next}
use Rattle.tau_past.proofs.noting.note_carried.Goals as goal

pub returns : goal.returns
returns c =
    carried_next c.args.trace.now.run c.args.place _ _ c.args.turns.now c.carried_by.result c.actor_at.result c.requires.well_formed c.requires.place c.actor_at.ensures c.carried_by.ensures c.in_ok-push.ensures.items c.requires.turns c.requires.told
