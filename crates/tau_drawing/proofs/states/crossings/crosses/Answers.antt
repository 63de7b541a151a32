use Rattle.tau_drawing.specs.States.StateLines.{CrossesAt}
use Rattle.tau_drawing.proofs.Crowds.{never}
use Rattle.tau_drawing.proofs.Crossings.{not_earlier, not_near, crosses_by}
use Rattle.std.proofs.Common.{◌≤◌, arith, true}
use Rattle.tau_layout.specs.Paths.Paths.{offset}
use Rattle.tau_drawing.specs.States.StateLines.{point_end}
use Rattle.tau_drawing.proofs.states.crossings.crosses.Goals as goal

pub returns-in_default : goal.returns-in_default
returns-in_default c = never (CrossesAt c.args.trace.now.run c.args.layout.now c.args.state c.args.place) (λ x. c.in_default.ensures x.message x.meets)

pub returns-then-not-is_earlier : goal.returns-then-not-is_earlier
returns-then-not-is_earlier c = never (CrossesAt c.args.trace.now.run c.args.layout.now c.args.state c.args.place)
    (not_earlier c.args.trace.now.run c.args.layout.now c.args.state c.args.place c.in-Some.message c.in-Some.ensures (λ all. let f = c.is_earlier.ensures.1 all in let g = c.if-not-is_earlier.true in cc))

pub returns-then-not-is_near : goal.returns-then-not-is_near
returns-then-not-is_near c = never (CrossesAt c.args.trace.now.run c.args.layout.now c.args.state c.args.place)
    (not_near c.args.trace.now.run c.args.layout.now c.args.state c.args.place c.in-Some.message c.in-Some.ensures c.is_near.result c.point_end.result c.point_end.ensures c.is_near.ensures (λ h. let g = c.if-not-is_near.true in cc))

pub returns : goal.returns
returns c =
    let T = c.args.trace.now.run in
    let meets = c.in-Some.ensures in
    let step = meets.stands.step in
    let near : offset true step c.in-Some.message ≤ point_end c.args.state 11 = omega (arith, c.point_end.ensures, (c.is_near.ensures step meets.stands.stands).0 c.if-not-is_near.false) in
    crosses_by T c.args.layout.now c.args.state c.args.place c.in-Some.message meets c.comes_from_right.result c.requires.wide c.requires.drawn c.requires.later
    (c.is_earlier.ensures.0 c.if-not-is_earlier.false) near c.comes_from_right.ensures
