use Rattle.std.proofs.Common.{◌∙◌, ◌∷◌, [], ap}
use Rattle.tau_svg.specs.Markup.Lines.{with_line}
use Rattle.tau_svg.proofs.Writing.{nothing, these}
use Rattle.tau_layout.specs.Plans.{row_y}
use Rattle.tau_picture.specs.Chains.{LinkLines, link_line, no_later, link_drawn, link_undrawn}
use Rattle.tau_picture.proofs.Showing.{no_maker, no_target}
use Rattle.tau_picture.proofs.chain.put_link.Goals as goal

pub returns-in_default : goal.returns-in_default
returns-in_default c =
    let T = c.args.trace.now.run in
    nothing (LinkLines T c.args.layout.now c.args.looks.now c.args.chained) c.args.out.now.items (link_undrawn (no_maker T c.args.layout.now c.args.looks.now c.args.chained c.in_default.ensures))

pub returns-in_default-shown : goal.returns-in_default-shown
returns-in_default-shown c =
    let T = c.args.trace.now.run in
    nothing (LinkLines T c.args.layout.now c.args.looks.now c.args.chained) c.args.out.now.items (link_undrawn (no_target T c.args.layout.now c.args.looks.now c.args.chained c.in_default-shown.ensures.placed))

pub returns : goal.returns
returns c =
    let T = c.args.trace.now.run in
    let plan = c.args.layout.now in
    let out = c.args.out.now.items in
    let spot = c.spot_at.result in
    let placed = c.in-Some-shown.placed in
    let j = c.in-Some.place in
    let maker = c.in-Some.ensures in
    these (LinkLines T plan c.args.looks.now c.args.chained) out c.put_link_line.new.out.items (link_line spot.x spot.y placed.x (row_y plan (no_later j placed.state.end)) ∷ [])
    (link_drawn (record { by = maker.by; drawn = maker.drawn; apart = maker.apart; at = c.spot_at.ensures.spot; to = c.in-Some-shown.ensures.placed }))
    (c.in_ok-put_link_line.ensures ∙ ap (λ y. with_line out (link_line spot.x spot.y placed.x y)) (c.y-to_y.ensures.y ∙ ap (row_y plan) c.no_later.ensures))
