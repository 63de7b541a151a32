use Rattle.tau_drawing.specs.States.StateLines.{HasHead}
use Rattle.tau_drawing.proofs.Crowds.{never, head_by}
use Rattle.tau_drawing.proofs.states.crossings.has_head.Goals as goal

pub returns-in_default : goal.returns-in_default
returns-in_default c = never (HasHead c.args.trace.now.run c.args.layout.now c.args.who c.args.place) (λ h. c.in_default.ensures h.message h.meets)

pub returns : goal.returns
returns c = head_by c.args.trace.now.run c.args.layout.now c.args.who c.args.place c.in-Some.message c.comes_from_right.result c.in-Some.ensures c.comes_from_right.ensures
