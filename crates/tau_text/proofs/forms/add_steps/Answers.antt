use Rattle.tau_text.proofs.Writing.{steps_none, steps_more}
use Rattle.tau_text.proofs.forms.add_steps.Goals as goal

pub loop-place-init : goal.loop-place-init
loop-place-init c = steps_none c.args.trace.now.run c.args.text.now.items

pub loop-place-preserved : goal.loop-place-preserved
loop-place-preserved c =
    steps_more c.args.trace.now.run c.loop-place.place c.args.text.now.items c.loop-place.text.items c.put_step.new.out.items c.in_ok-put_step.ensures c.loop-place.invariant
