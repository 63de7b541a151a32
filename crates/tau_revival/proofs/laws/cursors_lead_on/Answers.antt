use Rattle.std.proofs.Common.{refl, ap}
use Rattle.tau_trace.specs.Run.{appended}
use Rattle.tau_trace.proofs.Prefix.{run_of}
use Rattle.tau_script.specs.Cursors.{first_cursor}
use Rattle.tau_revival.proofs.Coming.{leads_first, leads_next}
use Rattle.tau_revival.proofs.laws.cursors_lead_on.Goals as goal

pub returns : goal.returns
returns c = record {
  first = λ S T none. leads_first S T T first_cursor (ap (run_of T.opening) none) refl;
  next = λ S T k s moved. leads_next c.cursors_go_on.ensures S T (appended T s) s k moved refl;
}
