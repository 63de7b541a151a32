use Rattle.tau_trace.specs.Run.{len}
use Rattle.tau_trace.specs.Numbering.{sent}
use Rattle.tau_layout.specs.Inner.Marking.{AreMarks}
use Rattle.tau_drawing.specs.Messages.Inner.Meetings.{IsMetBefore}
use Rattle.tau_drawing.proofs.messages.meetings.meetings_in.Given as goal

abbrev pub invariant-loop-place : goal.invariant-loop-place
invariant-loop-place l = AreMarks (IsMetBefore l.trace.run l.fn.window l.place) (sent l.trace.run (len l.trace.run)) l.marks.items
