use Rattle.tau_explain.proofs.HearingLemmas.{second_only, one_marked}
use Rattle.tau_explain.proofs.hearing.is_noted.Goals as goal

pub returns-else-is_marked : goal.returns-else-is_marked
returns-else-is_marked c = rw (← c.deref.ensures.value) (rw (← c.deref-else-is_marked.ensures.value)
    (second_only c.is_marked.result c.is_entered.result c.if-is_marked.false (one_marked c.deref.result.now c.args.place c.is_marked.result c.is_marked.ensures) c.is_entered.ensures))
