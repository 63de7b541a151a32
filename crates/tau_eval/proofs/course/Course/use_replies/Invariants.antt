use Rattle.std.proofs.Common.{◌≡◌, ◌-◌, length}
use Rattle.tau_eval.specs.Effect.{eff_of}
use Rattle.tau_eval.specs.Machine.{reached}
use Rattle.tau_eval.specs.Course.{turn_of, setting_by, GoesOn}
use Rattle.tau_eval.proofs.course.Course.use_replies.Given as goal

abbrev pub invariant-loop-self : goal.invariant-loop-self
invariant-loop-self l =
    record { course : GoesOn l.self (reached l.self.machine (setting_by l.self) (eff_of l.effect)); turn : turn_of l.self ≡ turn_of l.fn.self }

abbrev pub decreases-loop-self : goal.decreases-loop-self
decreases-loop-self l = length l.self.replies.items - l.self.used
