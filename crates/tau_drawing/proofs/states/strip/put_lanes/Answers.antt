use Rattle.std.proofs.Common.{◌∙◌, ap, arith}
use Rattle.std.specs.List.{flat_map}
use Rattle.tau_svg.specs.Markup.Lines.{with_lines}
use Rattle.tau_svg.proofs.Writing.{places_first}
use Rattle.tau_drawing.specs.States.StripLines.{span_lines, IsStripLane}
use Rattle.tau_drawing.proofs.StripLemmas.{lanes_next}
use Rattle.tau_drawing.proofs.states.strip.put_lanes.Goals as goal

pub loop-rank-init : goal.loop-rank-init
loop-rank-init c = places_first (IsStripLane c.args.names.now c.args.layout.now c.args.looks.now) 0 c.args.out.now.items

pub loop-rank-preserved : goal.loop-rank-preserved
loop-rank-preserved c =
    let columns = c.columns-columns.result.now in
    let k = c.loop-rank.rank in
    lanes_next c.args.names.now c.args.layout.now c.args.looks.now columns k (record { who = 0; node = 0; x = 0 }) c.args.out.now.items c.loop-rank.out.items c.put_label.new.out.items c.put_spans.new.out.items
    c.columns-columns.ensures.lanes c.columns-columns.ensures.columns (omega (arith, c.loop-rank-test.true)) c.loop-rank.invariant
    c.in_ok-put_label.ensures
    (c.in_ok-put_spans.ensures ∙ ap (λ xs. with_lines c.put_label.new.out.items (flat_map (span_lines c.args.layout.now k) xs)) c.seen_at.ensures)
