use Rattle.tau_queue.specs.Inner.Scans.{AreOpenBelow}
use Rattle.tau_queue.proofs.indexing.put_places.Given as goal

abbrev pub invariant-loop-place : goal.invariant-loop-place
invariant-loop-place l = AreOpenBelow l.trace.run l.place l.turns.items
