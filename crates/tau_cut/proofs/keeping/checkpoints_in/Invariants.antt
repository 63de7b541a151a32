use Rattle.tau_cut.specs.Inner.Checkpoints.{AreCheckpoints}
use Rattle.tau_cut.proofs.keeping.checkpoints_in.Given as goal

abbrev pub invariant-loop-place : goal.invariant-loop-place
invariant-loop-place l = AreCheckpoints l.fn.trace.run l.place l.places.items l.points.items
