use Rattle.tau_drawing.proofs.Crossings.{origin_earlier, post_earlier}
use Rattle.tau_drawing.proofs.states.crossings.is_earlier.Goals as goal

pub returns-in-Some : goal.returns-in-Some
returns-in-Some c = origin_earlier c.args.trace.now.run c.args.message c.in-Some.origin c.args.place c.in-Some.ensures

pub returns-in-None : goal.returns-in-None
returns-in-None c = post_earlier c.args.trace.now.run c.args.message c.args.place c.in-None.ensures
