use Rattle.std.proofs.Common.{◌∙◌, sym}
use Rattle.tau_drawing.proofs.LineLemmas.{sent_written}
use Rattle.tau_drawing.proofs.messages.sends.put_sent.Goals as goal

pub returns : goal.returns
returns c =
    sent_written c.args.drawing.now.program.now c.args.drawing.now.trace.now.run c.args.drawing.now.layout.now c.args.place c.args.number c.in-Some.to c.args.step.now c.in-Some-bearer_at.bearer c.args.drawing.now.bearers.now c.args.drawing.now.met.now c.flies-flies.result c.spot_at-at.result c.args.out.now.items c.put_sent_line.new.out.items
    c.requires.opening c.requires.bearers (sym c.bearer_at.ensures ∙ c.in-Some-bearer_at.is) c.requires.met c.requires.exists
    (λ h. let t = c.is_met.ensures.1 h in let f = c.if-is_met.false in cc)
    c.in-Some.ensures c.flies-flies.ensures c.spot_at-at.ensures.spot c.in_ok-put_sent_line.ensures
