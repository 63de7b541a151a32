use Rattle.std.proofs.Common.{◌∙◌, refl, ap}
use Rattle.tau_svg.specs.Markup.Lines.{with_lines}
use Rattle.tau_trace.specs.declared.opening.Opening.{Opening}
use Rattle.tau_svg.proofs.Writing.{these}
use Rattle.tau_drawing.specs.States.StateLines.{state_lines, IsStateAt}
use Rattle.tau_drawing.proofs.states.states.put_state.Goals as goal

pub returns : goal.returns
returns c =
    let T = c.args.trace.now.run in
    let plan = c.args.layout.now in
    let x = c.args.x in
    let seen = c.args.seen in
    let crowded = c.is_crowded-crowded.result in
    let crossed = c.is_crossed-crossed.result in
    let out = c.args.out.now.items in
    these (IsStateAt T plan x seen) out c.put_lines.new.out.items (state_lines plan T.opening.names x seen crowded crossed)
    (record { crowded = crowded; crowded_is = c.is_crowded-crowded.ensures; crossed = crossed; crossed_is = c.is_crossed-crossed.ensures; are = refl })
    (c.in_ok-put_lines.ensures ∙ ap (λ (o : Opening). with_lines out (state_lines plan o.names x seen crowded crossed)) c.opening.ensures.value)
