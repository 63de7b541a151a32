use Rattle.std.proofs.Common.{refl, subst}
use Rattle.tau_svg.specs.declared.shapes.window.Window.{Window}
use Rattle.tau_svg.specs.Shapes.Windows.{IsDrawn}
use Rattle.tau_drawing.proofs.Crowds.{lane_told}
use Rattle.tau_picture.proofs.chain.drawn_maker.Goals as goal

pub returns : goal.returns
returns c =
    let T = c.args.trace.now.run in
    let j = c.in-Some.place in
    let who = c.args.chained.point.who in
    record {
      by = c.in-Some.is;
      drawn = subst (λ (v : Window). IsDrawn v j) c.window.ensures.window (c.if-not-has.ensures.0 refl);
      apart = λ h. let f = c.if-is_who.ensures.1 (lane_told T j who c.lane_at.result c.lane_at.ensures h) in cc;
    }
