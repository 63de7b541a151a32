use Rattle.tau_picture.proofs.Joins.{middle_parts}
use Rattle.tau_picture.proofs.drawing.put_middle.Goals as goal

pub returns : goal.returns
returns c =
    middle_parts c.args.program.now c.args.trace.now.run c.args.layout.now c.args.looks.now
    c.args.out.now.items c.put_strip.new.out.items c.put_nodes.new.out.items c.put_lanes.new.out.items c.put_guides.new.out.items c.put_states.new.out.items c.put_messages.new.out.items c.put_marks.new.out.items c.put_names.new.out.items
    c.in_ok-put_strip.ensures c.in_ok-put_nodes.ensures c.in_ok-put_lanes.ensures c.in_ok-put_guides.ensures c.in_ok-put_states.ensures c.in_ok-put_messages.ensures c.in_ok-put_marks.ensures c.in_ok-put_names.ensures
