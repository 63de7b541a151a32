use Rattle.std.proofs.Common.{◌≡◌, take}
use Rattle.tau_trace.specs.Run.{versioned}
use Rattle.tau_trace.proofs.Prefix.{run_of}
use Rattle.tau_trace.proofs.trace.Trace.with_version.Given as goal

abbrev pub invariant-loop-step : goal.invariant-loop-step
invariant-loop-step l =
    (l.step-items ≡ l.self.run.steps) × (l.trace.run ≡ versioned l.version (run_of l.self.run.opening (take l.step-index l.step-items)))
