use Rattle.std.proofs.Common.{length, subst}
use Rattle.tau_trace.specs.declared.opening.Opening.{Opening}
use Rattle.tau_svg.specs.Shapes.Each.{EachPlace, Writes}
use Rattle.tau_drawing.specs.States.EndLines.{IsEndAt}
use Rattle.tau_drawing.proofs.EndLemmas.{ends_told}
use Rattle.tau_drawing.proofs.states.ends.put_ends.Goals as goal

pub returns : goal.returns
returns c =
    let plan = c.args.layout.now in
    ends_told c.args.trace.now.run plan c.args.looks.now c.args.out.now.items c.put_heading.new.out.items c.put_lanes.new.out.items c.in_ok-put_heading.ensures
    (subst (λ (o : Opening). Writes (EachPlace (IsEndAt o.names plan c.args.looks.now) 0 (length plan.lanes)) c.put_heading.new.out.items c.put_lanes.new.out.items) c.opening.ensures.value c.in_ok-put_lanes.ensures)
