use Rattle.tau_explain.proofs.HearingLemmas.{entered_second}
use Rattle.tau_explain.proofs.hearing.is_entered.Goals as goal

pub returns-else-is_marked : goal.returns-else-is_marked
returns-else-is_marked c = entered_second c.args.trace.now.run c.args.place c.args.entered.now c.actor_at.result c.made_by.result c.is_marked.result c.is_marked-else-is_marked.result c.actor_at.ensures c.made_by.ensures c.if-is_marked.false c.is_marked.ensures c.is_marked-else-is_marked.ensures
