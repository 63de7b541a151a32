use Rattle.tau_faults.proofs.EndRuns.{ends_run}
use Rattle.tau_faults.proofs.laws.ends_are_runs.Goals as goal

pub returns : goal.returns
returns c = ends_run c.serial_run_is_unique.ensures c.scripts_are_determined.ensures c.scripts_are_local.ensures c.legal_traces_are_safe.ensures
