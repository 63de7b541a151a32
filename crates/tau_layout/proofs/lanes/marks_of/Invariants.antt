use Rattle.tau_trace.specs.Run.{len}
use Rattle.tau_trace.specs.Numbering.{born}
use Rattle.tau_layout.specs.Inner.Marking.{AreMarks, HasLaneBefore}
use Rattle.tau_layout.proofs.lanes.marks_of.Given as goal

abbrev pub invariant-loop-place : goal.invariant-loop-place
invariant-loop-place l = AreMarks (HasLaneBefore l.trace.run l.fn.window l.place) (born l.trace.run (len l.trace.run)) l.marks.items
