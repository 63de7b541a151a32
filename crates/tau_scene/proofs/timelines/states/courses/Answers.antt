use Rattle.std.proofs.Common.{◌≡◌, ◌∙◌, ◌<◌, ℕ, length, get_or, sym, ap, subst, arith}
use Rattle.std.specs.Prelude.{slice_get}
use Rattle.std.specs.Option.{option_map}
use Rattle.std.proofs.lemmas.Option.{slice_get-get_or, slice_get-map}
use Rattle.tau_trace.specs.Run.{starts}
use Rattle.tau_trace.specs.declared.opening.Opening.{Opening}
use Rattle.tau_layout.specs.declared.columns.Column.{Column}
use Rattle.tau_layout.specs.Inner.Laying.{lane_of}
use Rattle.tau_scene.specs.Timelines.Inner.Courses.{IsNewCourse}
use Rattle.tau_scene.proofs.Lanes.{first_next}
use Rattle.tau_scene.proofs.timelines.states.courses.Goals as goal

pub loop-column-preserved : goal.loop-column-preserved
loop-column-preserved c =
    let T = c.args.trace.now.run in
    let k = c.loop-column.column-index in
    let columns = c.columns-column-items.result.now in
    let d : Column = record { who = 0; node = 0; x = 0 } in
    let column = get_or columns k d in
    let below : k < length columns = omega (arith, c.loop-column-test.true) in
    let many : c.len-starts.result ≡ starts T = c.len-starts.ensures ∙ ap (λ (o : Opening). length o.names) c.opening.ensures.value in
    first_next T c.requires.well_formed c.args.layout.now c.requires.plan.lanes_are k c.loop-column.all.items c.push.new.self.items c.course_of.result (lane_of column) c.loop-column.invariant c.in_ok-push.ensures.items
    (ap (λ ls. slice_get ls k) (sym c.columns-column-items.ensures.lanes) ∙ slice_get-map lane_of columns k ∙ ap (option_map lane_of) (slice_get-get_or columns k d below))
    (subst (λ (n : ℕ). IsNewCourse n column.who c.course_of.result) many c.course_of.ensures)
