use Rattle.std.proofs.Common.{◌∙◌, refl, sym, arith}
use Rattle.tau_drawing.specs.States.StateLines.{IsCrossed}
use Rattle.tau_drawing.proofs.Crowds.{never}
use Rattle.tau_drawing.proofs.Crossings.{none_first, none_more, place_drawn, place_later, none_crosses, not_wide}
use Rattle.tau_drawing.proofs.states.crossings.is_crossed.Goals as goal

pub returns-then-not-is_wide : goal.returns-then-not-is_wide
returns-then-not-is_wide c =
    never (IsCrossed c.args.trace.now.run c.args.layout.now c.args.state) (not_wide c.args.trace.now.run c.args.layout.now c.args.state c.is_wide.result c.is_wide.ensures c.if-not-is_wide.true)

pub loop-place-init : goal.loop-place-init
loop-place-init c = none_first c.args.trace.now.run c.args.layout.now c.args.state c.window-window.result c.first_place-first.result c.window-window.ensures.window c.first_place-first.ensures

pub crosses-requires-clause-wide : goal.crosses-requires-clause-wide
crosses-requires-clause-wide c = sym c.is_wide.ensures ∙ c.if-not-is_wide.false

pub crosses-requires-clause-drawn : goal.crosses-requires-clause-drawn
crosses-requires-clause-drawn c = place_drawn c.args.trace.now.run c.args.layout.now c.args.state c.window-window.result c.loop-place.place c.window-window.ensures.window (omega (arith, c.loop-place-test.true)) c.loop-place.invariant

pub crosses-requires-clause-later : goal.crosses-requires-clause-later
crosses-requires-clause-later c = place_later c.args.trace.now.run c.args.layout.now c.args.state c.loop-place.place c.loop-place.invariant

pub loop-place-preserved : goal.loop-place-preserved
loop-place-preserved c = none_more c.args.trace.now.run c.args.layout.now c.args.state c.loop-place.place c.loop-place.invariant (λ x. let f = c.crosses.ensures.1 x in let g = c.if-crosses.false in cc)

pub returns-then-crosses : goal.returns-then-crosses
returns-then-crosses c = (λ e. (c.loop-place.place, c.crosses.ensures.0 c.if-crosses.true), λ x. refl)

pub returns : goal.returns
returns c =
    never (IsCrossed c.args.trace.now.run c.args.layout.now c.args.state)
    (none_crosses c.args.trace.now.run c.args.layout.now c.args.state c.window-window.result c.loop-place.place c.window-window.ensures.window (omega (arith, c.loop-place-test.false)) c.loop-place.invariant)
