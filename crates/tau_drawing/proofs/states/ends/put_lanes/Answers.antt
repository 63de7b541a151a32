use Rattle.std.proofs.Common.{◌∙◌, ap, get_or, arith}
use Rattle.std.specs.Prelude.{slice_get}
use Rattle.tau_svg.specs.Markup.Lines.{with_lines}
use Rattle.tau_svg.proofs.Writing.{places_first}
use Rattle.tau_drawing.specs.States.EndLines.{ending_lines, IsEndAt}
use Rattle.tau_drawing.proofs.EndLemmas.{rank_low, ends_next}
use Rattle.tau_drawing.proofs.states.ends.put_lanes.Goals as goal

pub loop-rank-init : goal.loop-rank-init
loop-rank-init c = places_first (IsEndAt c.args.names.now c.args.layout.now c.args.looks.now) 0 c.args.out.now.items

pub put_end_at-requires : goal.put_end_at-requires
put_end_at-requires c =
    rank_low c.args.layout.now c.columns-columns.result.now c.loop-rank.rank (record { who = 0; node = 0; x = 0 }) c.columns-columns.ensures.lanes c.columns-columns.ensures.columns (omega (arith, c.loop-rank-test.true))

pub loop-rank-preserved : goal.loop-rank-preserved
loop-rank-preserved c =
    let columns = c.columns-columns.result.now in
    let k = c.loop-rank.rank in
    let column = get_or columns k (record { who = 0; node = 0; x = 0 }) in
    ends_next c.args.names.now c.args.layout.now c.args.looks.now columns k (record { who = 0; node = 0; x = 0 }) c.in_ok-name.name.items c.args.out.now.items c.loop-rank.out.items c.put_end_at.new.out.items
    c.columns-columns.ensures.lanes c.columns-columns.ensures.columns (omega (arith, c.loop-rank-test.true)) c.loop-rank.invariant c.in_ok-name.ensures
    (c.in_ok-put_end_at.ensures ∙ ap (λ n. with_lines c.loop-rank.out.items (ending_lines c.args.layout.now k column.x n (slice_get c.args.looks.now.ends.items k))) c.deref.ensures.value)
