use Rattle.tau_cut.specs.Inner.Marking.{AreMarks}
use Rattle.tau_cut.proofs.marking.marks_of.Given as goal

abbrev pub invariant-loop-at : goal.invariant-loop-at
invariant-loop-at l = AreMarks l.places l.fn.chains.items l.at l.marks.items l.chains.items
