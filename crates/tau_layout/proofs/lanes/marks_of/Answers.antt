use Rattle.std.proofs.Common.{ℕ, subst, arith}
use Rattle.tau_trace.specs.Run.{len}
use Rattle.tau_trace.specs.Numbering.{born}
use Rattle.tau_layout.specs.Inner.Marking.{AreMarks, HasLaneBefore}
use Rattle.tau_layout.proofs.LaneLemmas.{marks_first, marks_next, marks_end}
use Rattle.tau_layout.proofs.lanes.marks_of.Goals as goal

pub loop-place-init : goal.loop-place-init
loop-place-init c =
    let T = c.args.trace.now.run in
    let v = c.args.window in
    let P = HasLaneBefore T v v.from in
    let marks = c.in_ok-marks.marks.items in
    subst (λ (n : ℕ). AreMarks P n marks) c.born.ensures (marks_first P _ marks (c.in_ok-marks.ensures.items_if_clones_equal (λ y h. h)) (λ t h. omega (arith, h.before, h.has.drawn.0)))

pub loop-place-preserved : goal.loop-place-preserved
loop-place-preserved c =
    let T = c.args.trace.now.run in
    let k = c.loop-place.place in
    marks_next T c.args.window k (born T (len T)) c.loop-place.marks.items c.mark_lane.new.marks.items (c.loop-place.auto.place, c.loop-place-test.true) c.loop-place.invariant c.mark_lane.ensures

pub returns-clause-marks : goal.returns-clause-marks
returns-clause-marks c =
    let T = c.args.trace.now.run in
    marks_end T c.args.window c.loop-place.place (born T (len T)) c.loop-place.marks.items c.loop-place-test.false c.loop-place.invariant
