use Rattle.std.specs.HashMap.{get}
use Rattle.tau_points.specs.declared.point.Point.{Point}
use Rattle.tau_past.specs.Tables.{same_point}
use Rattle.tau_explain.proofs.PushLemmas.{TellsBelow}
use Rattle.tau_explain.proofs.links.dependents.checkpoints_of.Given as goal

abbrev pub invariant-loop-place : goal.invariant-loop-place
invariant-loop-place l = (q : Point) → TellsBelow l.index l.marks l.place q (get same_point l.checkpoints q)
