use Rattle.std.proofs.Common.{◌≡◌, ◌<◌, ◌∙◌, ◌-◌, ap, arith}
use Rattle.std.proofs.lemmas.Result.{on_ok_weaker}
use Rattle.tau_svg.specs.Markup.Lines.{with_end}
use Rattle.tau_svg.specs.declared.shapes.window.Window.{Window}
use Rattle.tau_drawing.specs.States.StateLines.{state_foot}
use Rattle.tau_drawing.proofs.StateLemmas.{stable_told}
use Rattle.tau_drawing.proofs.states.states.put_stable.Goals as goal

pub returns : goal.returns
returns c =
    let plan = c.args.layout.now in
    let seen = c.args.seen in
    let k = c.in-Some.place in
    let top = c.stable_top-top.result in
    let below : k < plan.window.to = omega (arith, c.if-window-place.false, ap (λ (v : Window). v.to) c.window.ensures.window) in
    let height : c.saturating_sub-height.result ≡ state_foot plan seen.state - top = omega (arith, c.saturating_sub-height.ensures, c.state_foot.ensures.foot) in
    on_ok_weaker c.end.result
    (λ w. stable_told plan c.args.x seen k top c.saturating_sub-height.result c.state_class.result.now c.args.out.now.items c.end.new.out.items c.in-Some.is below c.state_class.ensures c.stable_top-top.ensures height (w ∙ ap with_end c.in_ok-rect_of.ensures))
    c.end.ensures
