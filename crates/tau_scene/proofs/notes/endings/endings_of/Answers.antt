use Rattle.std.proofs.Common.{◌∙◌, ◌<◌, length, get_or, Option, Some, ap, sym, arith}
use Rattle.std.proofs.lemmas.Option.{slice_get-get_or}
use Rattle.tau_layout.specs.declared.columns.Column.{Column}
use Rattle.tau_layout.specs.Inner.Laying.{lane_of, lanes_of}
use Rattle.tau_scene.specs.declared.notes.keeping.Kept.{Kept}
use Rattle.tau_scene.proofs.KeptLemmas.{endings_next, lane_at}
use Rattle.tau_scene.proofs.notes.endings.endings_of.Goals as goal

pub loop-rank-preserved : goal.loop-rank-preserved
loop-rank-preserved c =
    let k = c.loop-rank.rank in
    let columns = c.args.columns.now in
    let lt : k < length columns = omega (arith, c.loop-rank-test.true) in
    let d : Column = record { who = 0; node = 0; x = 0 } in
    let column = get_or columns k d in
    endings_next c.args.names.now c.args.starts.now (lanes_of columns) c.args.kept.now k (lane_of column) c.index-kept-rank.result c.in_ok-ending.field-0 c.loop-rank.endings.items c.push.new.self.items c.loop-rank.invariant c.in_ok-push.ensures.items
    (lane_at columns k column (slice_get-get_or columns k d lt))
    (slice_get-get_or c.args.kept.now k c.index-kept-rank.result (omega (arith, lt, c.requires)) ∙ ap (λ (o : Option Kept). Some o) (sym c.index-kept-rank.is))
    c.in_ok-ending.ensures
