use Rattle.std.proofs.Common.{length, subst}
use Rattle.tau_trace.specs.declared.opening.Opening.{Opening}
use Rattle.tau_svg.specs.Shapes.Each.{EachPlace, Writes}
use Rattle.tau_drawing.specs.States.StripLines.{IsStripLane}
use Rattle.tau_drawing.proofs.StripLemmas.{whole}
use Rattle.tau_drawing.proofs.states.strip.put_whole.Goals as goal

pub returns : goal.returns
returns c =
    let plan = c.args.layout.now in
    whole c.args.trace.now.run plan c.args.looks.now c.args.out.now.items c.put_frame.new.out.items c.put_lanes.new.out.items c.put_ticks.new.out.items c.put_places.new.out.items
    c.in_ok-put_frame.ensures
    (subst (λ (o : Opening). Writes (EachPlace (IsStripLane o.names plan c.args.looks.now) 0 (length plan.lanes)) c.put_frame.new.out.items c.put_lanes.new.out.items) c.opening.ensures.value c.in_ok-put_lanes.ensures)
    c.in_ok-put_ticks.ensures c.in_ok-put_places.ensures
