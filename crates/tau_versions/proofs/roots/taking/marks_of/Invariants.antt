use Rattle.tau_versions.specs.Roots.Marks.{AreMarks}
use Rattle.tau_versions.proofs.roots.taking.marks_of.Given as goal

abbrev pub invariant-loop-point : goal.invariant-loop-point
invariant-loop-point l = AreMarks l.taken l.marks.items
