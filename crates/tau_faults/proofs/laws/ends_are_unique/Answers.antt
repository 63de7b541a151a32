use Rattle.std.proofs.Common.{[]}
use Rattle.tau_faults.proofs.Once.{from_once}
use Rattle.tau_faults.proofs.laws.ends_are_unique.Goals as goal

pub returns : goal.returns
returns c = λ O S seed ends others a b. from_once c.serial_run_is_unique.ensures c.scripts_are_determined.ensures S seed S.faults 0 [] O ends others a b
