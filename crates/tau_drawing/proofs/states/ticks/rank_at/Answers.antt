use Rattle.tau_drawing.proofs.StripLemmas.{rank_told}
use Rattle.tau_drawing.proofs.states.ticks.rank_at.Goals as goal

pub returns-in-Some : goal.returns-in-Some
returns-in-Some c = rank_told c.args.trace.now.run c.args.layout.now c.args.place c.in-Some.who c.rank.result c.in-Some.ensures c.rank.ensures
