use Rattle.tau_layout.proofs.LaneLemmas.{lost, copied, acted}
use Rattle.tau_layout.proofs.lanes.lane_of.Goals as goal

pub returns-in-Lose : goal.returns-in-Lose
returns-in-Lose c = lost c.args.trace.now.run c.args.step.now _ c.target.result c.in-Lose.is c.target.ensures

pub returns-in-Repeat : goal.returns-in-Repeat
returns-in-Repeat c = copied c.args.trace.now.run c.args.step.now _ c.target-in-Repeat.result c.in-Repeat.is c.target-in-Repeat.ensures

pub returns-in_default : goal.returns-in_default
returns-in_default c = acted c.args.trace.now.run c.args.step.now c.actor.result c.in_default.not-Lose c.in_default.not-Repeat c.actor.ensures
