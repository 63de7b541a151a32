use Rattle.tau_drawing.proofs.Crossings.{near_told}
use Rattle.tau_drawing.proofs.states.crossings.is_near.Goals as goal

pub returns-in-Some : goal.returns-in-Some
returns-in-Some c = near_told c.args.trace.now.run c.args.place c.args.message c.args.reach c.offset.result c.in-Some.step.now c.in-Some.ensures c.offset.ensures.offset
