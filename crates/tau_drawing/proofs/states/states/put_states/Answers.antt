use Rattle.std.proofs.Common.{List, get_or, arith, subst}
use Rattle.tau_svg.specs.Shapes.Each.{EachItem, Writes}
use Rattle.tau_scene.specs.declared.looks.looks.Seen.{Seen}
use Rattle.tau_svg.proofs.Writing.{places_first}
use Rattle.tau_layout.specs.declared.columns.Column.{Column}
use Rattle.tau_drawing.proofs.ColumnLanes.{left, right}
use Rattle.tau_drawing.specs.States.StateLines.{IsStateAt, AreStatesAt}
use Rattle.tau_drawing.proofs.StateLemmas.{states_next}
use Rattle.tau_drawing.proofs.states.states.put_states.Goals as goal

pub loop-rank-init : goal.loop-rank-init
loop-rank-init c = places_first (AreStatesAt c.args.trace.now.run c.args.layout.now c.args.looks.now) 0 c.args.out.now.items

pub put_all-requires-clause-left : goal.put_all-requires-clause-left
put_all-requires-clause-left c =
    left c.args.layout.now c.columns-columns.result.now c.columns-columns.ensures.lanes c.columns-columns.ensures.columns c.loop-rank.rank (record { who = 0; node = 0; x = 0 }) (omega (arith, c.loop-rank-test.true))

pub put_all-requires-clause-right : goal.put_all-requires-clause-right
put_all-requires-clause-right c =
    right c.args.layout.now c.columns-columns.result.now c.columns-columns.ensures.lanes c.columns-columns.ensures.columns c.loop-rank.rank (record { who = 0; node = 0; x = 0 }) (omega (arith, c.loop-rank-test.true))

pub loop-rank-preserved : goal.loop-rank-preserved
loop-rank-preserved c =
    let plan = c.args.layout.now in
    let columns = c.columns-columns.result.now in
    let k = c.loop-rank.rank in
    let d : Column = record { who = 0; node = 0; x = 0 } in
    let x = (get_or columns k d).x in
    let out = c.loop-rank.out.items in
    states_next c.args.trace.now.run plan c.args.looks.now columns k d c.args.out.now.items out c.put_all.new.out.items
    c.columns-columns.ensures.lanes c.columns-columns.ensures.columns (omega (arith, c.loop-rank-test.true)) c.loop-rank.invariant
    (subst (λ (xs : List Seen). Writes (EachItem (IsStateAt c.args.trace.now.run plan x) xs) out c.put_all.new.out.items) c.seen_at.ensures c.in_ok-put_all.ensures)
