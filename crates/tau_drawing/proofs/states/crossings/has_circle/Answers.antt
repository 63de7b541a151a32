use Rattle.std.proofs.Common.{◌∙◌, sym}
use Rattle.tau_drawing.specs.States.StateLines.{HasCircle}
use Rattle.tau_drawing.proofs.Crowds.{never, no_circle, circle_by}
use Rattle.tau_drawing.proofs.states.crossings.has_circle.Goals as goal

pub returns-in_default : goal.returns-in_default
returns-in_default c = never (HasCircle c.args.trace.now.run c.args.who c.args.place) (λ h. let e = c.in_default.ensures ∙ h.sends.stands in cc)

pub returns-then-not-is_who : goal.returns-then-not-is_who
returns-then-not-is_who c = never (HasCircle c.args.trace.now.run c.args.who c.args.place)
    (no_circle c.args.trace.now.run c.args.who c.args.place c.in-Some.step.now (sym c.in-Some.ensures) (λ is. let f = c.is_who.ensures.1 (c.sender_in.ensures ∙ is) in let g = c.if-not-is_who.true in cc))

pub returns : goal.returns
returns c =
    circle_by c.args.trace.now.run c.args.who c.args.place c.in-Some-made_at.message c.in-Some.step.now c.flies.result (sym c.in-Some.ensures) (sym c.sender_in.ensures ∙ c.is_who.ensures.0 c.if-not-is_who.false)
    c.in-Some-made_at.ensures.made c.flies.ensures
