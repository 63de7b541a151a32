use Rattle.std.proofs.Common.{sym, subst}
use Rattle.tau_svg.specs.declared.shapes.window.Window.{Window}
use Rattle.tau_svg.specs.Shapes.Each.{EachPlace, Writes}
use Rattle.tau_svg.proofs.Writing.{places_first, places_next}
use Rattle.tau_drawing.specs.States.StripLines.{IsTick}
use Rattle.tau_drawing.proofs.states.ticks.put_ticks.Goals as goal

pub loop-place-init : goal.loop-place-init
loop-place-init c =
    subst (λ (v : Window). Writes (EachPlace (IsTick c.args.trace.now.run c.args.layout.now c.args.looks.now) c.args.layout.now.window.from v.from) c.args.out.now.items c.args.out.now.items) (sym c.window-window.ensures.window)
    (places_first (IsTick c.args.trace.now.run c.args.layout.now c.args.looks.now) c.args.layout.now.window.from c.args.out.now.items)

pub loop-place-preserved : goal.loop-place-preserved
loop-place-preserved c =
    places_next (IsTick c.args.trace.now.run c.args.layout.now c.args.looks.now) c.args.layout.now.window.from c.loop-place.place c.args.out.now.items c.loop-place.out.items c.put_tick.new.out.items c.loop-place.invariant c.in_ok-put_tick.ensures
