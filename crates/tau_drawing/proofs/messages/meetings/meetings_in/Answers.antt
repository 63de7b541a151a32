use Rattle.std.proofs.Common.{ℕ, subst, arith}
use Rattle.tau_trace.specs.Run.{len}
use Rattle.tau_trace.specs.Numbering.{sent}
use Rattle.tau_layout.specs.Inner.Marking.{AreMarks}
use Rattle.tau_layout.proofs.LaneLemmas.{marks_first}
use Rattle.tau_drawing.specs.Messages.Inner.Meetings.{IsMetBefore}
use Rattle.tau_drawing.proofs.MeetingLemmas.{meetings_next, meetings_end}
use Rattle.tau_drawing.proofs.messages.meetings.meetings_in.Goals as goal

pub loop-place-init : goal.loop-place-init
loop-place-init c =
    let T = c.args.trace.now.run in
    let v = c.args.window in
    let P = IsMetBefore T v v.from in
    let marks = c.in_ok-marks.marks.items in
    subst (λ (n : ℕ). AreMarks P n marks) c.sent.ensures (marks_first P _ marks (c.in_ok-marks.ensures.items_if_clones_equal (λ y h. h)) (λ t h. omega (arith, h.before, h.is.drawn.0)))

pub loop-place-preserved : goal.loop-place-preserved
loop-place-preserved c =
    let T = c.args.trace.now.run in
    let k = c.loop-place.place in
    meetings_next T c.args.window k (sent T (len T)) c.loop-place.marks.items c.mark_met.new.marks.items (c.loop-place.auto.place, c.loop-place-test.true) c.loop-place.invariant c.mark_met.ensures

pub returns : goal.returns
returns c =
    let T = c.args.trace.now.run in
    meetings_end T c.args.window c.loop-place.place (sent T (len T)) c.loop-place.marks.items c.loop-place-test.false c.loop-place.invariant
