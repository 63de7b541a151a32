use Rattle.tau_faults.specs.Inner.Here.{AreThoseBefore}
use Rattle.tau_faults.proofs.faults.add_fails.Given as goal

-- those of the kind below the number were added
abbrev pub invariant-loop-node : goal.invariant-loop-node
invariant-loop-node l = AreThoseBefore l.fn.left l.program l.so_far.run 0 0 l.initial.faults.items → AreThoseBefore l.fn.left l.program l.so_far.run 0 l.node l.faults.items
