use Rattle.tau_faults.specs.Inner.Here.{AreThoseBefore}
use Rattle.tau_faults.proofs.faults.add_losses.Given as goal

-- those of the kind below the number were added
abbrev pub invariant-loop-message : goal.invariant-loop-message
invariant-loop-message l = AreThoseBefore l.fn.left l.program l.so_far.run 1 0 l.initial.faults.items → AreThoseBefore l.fn.left l.program l.so_far.run 1 l.message l.faults.items
