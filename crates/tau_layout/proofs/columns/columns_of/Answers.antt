use Rattle.std.proofs.Common.{◌<◌, ◌∙◌, length, ap, arith, get_or}
use Rattle.std.proofs.lemmas.Option.{slice_get-get_or}
use Rattle.tau_svg.specs.Shapes.Grids.{x_of}
use Rattle.tau_layout.specs.declared.lanes.Lane.{Lane}
use Rattle.tau_layout.proofs.ColumnLemmas.{marked_are, columns_next}
use Rattle.tau_layout.proofs.columns.columns_of.Goals as goal

pub loop-rank-preserved : goal.loop-rank-preserved
loop-rank-preserved c =
    let lanes = c.args.lanes.now in
    let k = c.loop-rank.rank in
    let d : Lane = record { node = 0; who = 0 } in
    let l = get_or lanes k d in
    let below : k < length lanes = omega (arith, c.loop-rank-test.true) in
    let group = marked_are lanes c.args.nodes l.node c.args.marks.now c.requires.marks (omega (arith, c.requires.nodes k d below)) in
    columns_next c.args.grid lanes k c.loop-rank.columns.items c.push.new.self.items (record { who = l.who; node = l.node; x = c.x.result }) c.loop-rank.invariant c.in_ok-push.ensures.items
    (slice_get-get_or lanes k d below)
    (c.x.ensures.x ∙ ap (x_of c.args.grid k) (c.marked_below.ensures.count ∙ group))
    c.x.ensures.left c.x.ensures.right
