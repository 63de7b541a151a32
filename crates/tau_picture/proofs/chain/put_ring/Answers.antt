use Rattle.std.proofs.Common.{◌∷◌, [], refl, sym, subst}
use Rattle.tau_svg.specs.declared.shapes.window.Window.{Window}
use Rattle.tau_svg.specs.Shapes.Windows.{IsDrawn}
use Rattle.tau_svg.proofs.Writing.{nothing, these}
use Rattle.tau_picture.specs.Chains.{RingLines, ring_line, ring_drawn, ring_undrawn}
use Rattle.tau_picture.proofs.chain.put_ring.Goals as goal

pub returns-then-not-has : goal.returns-then-not-has
returns-then-not-has c =
    nothing (RingLines c.args.trace.now.run c.args.layout.now c.args.place) c.args.out.now.items
    (ring_undrawn (λ d. let f = c.if-not-has.ensures.1 (subst (λ (v : Window). IsDrawn v c.args.place) (sym c.window.ensures.window) d) in cc))

pub returns : goal.returns
returns c =
    these (RingLines c.args.trace.now.run c.args.layout.now c.args.place) c.args.out.now.items c.put_circle.new.out.items (ring_line c.spot_at.result ∷ [])
    (ring_drawn c.spot_at.result (subst (λ (v : Window). IsDrawn v c.args.place) c.window.ensures.window (c.if-not-has.ensures.0 refl)) c.spot_at.ensures.spot)
    c.in_ok-put_circle.ensures
