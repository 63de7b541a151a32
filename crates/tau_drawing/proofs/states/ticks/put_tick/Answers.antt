use Rattle.std.proofs.Common.{sym}
use Rattle.tau_drawing.proofs.StripLemmas.{tick_one}
use Rattle.tau_drawing.proofs.states.ticks.put_tick.Goals as goal

pub returns : goal.returns
returns c =
    tick_one c.args.trace.now.run c.args.layout.now c.args.looks.now c.args.place c.in-Some.rank c.in-Some-class_at.class.now c.args.out.now.items c.put_tick_line.new.out.items c.in-Some.ensures (sym c.in-Some-class_at.ensures) c.in_ok-put_tick_line.ensures
