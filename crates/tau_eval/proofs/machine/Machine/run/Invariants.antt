use Rattle.tau_eval.specs.Settings.{setting_of}
use Rattle.tau_eval.specs.Machine.{running, SameEffect, work}
use Rattle.tau_eval.proofs.machine.Machine.run.Given as goal

abbrev pub invariant-loop-next : goal.invariant-loop-next
invariant-loop-next l =
    SameEffect (running l.fn.self (setting_of l.setting) l.fn.focus) (running l.self (setting_of l.setting) l.focus)

abbrev pub decreases-loop-next : goal.decreases-loop-next
decreases-loop-next l = work l.self l.focus
