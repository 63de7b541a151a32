use Rattle.std.proofs.Common.{[], ◌∷◌, refl}
use Rattle.tau_svg.proofs.Writing.{these}
use Rattle.tau_layout.specs.Paths.Guides.{guide_line, IsGuide}
use Rattle.tau_layout.proofs.paths.guides.put_guide.Goals as goal

pub returns : goal.returns
returns c =
    let at = c.spot_at-at.result in
    these (IsGuide c.args.trace.now.run c.args.layout.now c.args.place) c.args.out.now.items c.put_line.new.out.items (guide_line at ∷ []) (at, c.spot_at-at.ensures.spot, refl) c.in_ok-put_line.ensures
