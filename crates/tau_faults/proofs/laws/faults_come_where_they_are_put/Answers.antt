use Rattle.tau_faults.proofs.Coming.{fault_comes}
use Rattle.tau_faults.proofs.laws.faults_come_where_they_are_put.Goals as goal

pub returns : goal.returns
returns c = λ P Q jobs seed limit every k f T U sound t is u. fault_comes c.serial_run_is_unique.ensures c.scripts_are_determined.ensures c.scripts_are_local.ensures P Q jobs seed limit every k f T U t is u
