use Rattle.std.proofs.Common.{◌∷◌, []}
use Rattle.tau_svg.proofs.Writing.{nothing, these}
use Rattle.tau_picture.specs.Chains.{FrameLines, frame_line, framed, unframed}
use Rattle.tau_picture.proofs.chain.put_frame.Goals as goal

pub returns-in_default : goal.returns-in_default
returns-in_default c = nothing (FrameLines c.args.layout.now c.args.looks.now c.args.chained) c.args.out.now.items (unframed c.in_default.ensures.placed)

pub returns : goal.returns
returns c =
    let placed = c.in-Some.placed in
    these (FrameLines c.args.layout.now c.args.looks.now c.args.chained) c.args.out.now.items c.put_frame_of.new.out.items (frame_line c.args.layout.now placed.state placed.x ∷ []) (framed c.in-Some.ensures.placed) c.in_ok-put_frame_of.ensures
