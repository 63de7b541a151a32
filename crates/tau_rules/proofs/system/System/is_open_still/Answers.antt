use Rattle.std.proofs.Common.{subst}
use Rattle.tau_trace.specs.Known.{WellFormed}
use Rattle.tau_eval.specs.Turn.{TurnSoFar}
use Rattle.tau_rules.specs.System.{Core}
use Rattle.tau_rules.proofs.KnownJobs.{open_still, open_at}
use Rattle.tau_rules.proofs.system.System.is_open_still.Goals as goal

pub returns : goal.returns
returns g c =
    let k : Core = c.args.self.now in
    let job : TurnSoFar = c.args.pending.now in
    let well : WellFormed k.run = subst WellFormed c.trace-trace.ensures.run c.trace-trace.ensures.well_formed in
    (λ e. open_still k.program k.run job well c.requires.known (c.is_at.ensures.0 e), λ is. c.is_at.ensures.1 (open_at k.program k.run job is))
