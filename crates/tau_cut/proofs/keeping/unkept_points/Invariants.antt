use Rattle.tau_cut.specs.Inner.Checkpoints.{AreUnkept}
use Rattle.tau_cut.proofs.keeping.unkept_points.Given as goal

abbrev pub invariant-loop-place : goal.invariant-loop-place
invariant-loop-place l = AreUnkept l.index l.kept l.place l.points.items
