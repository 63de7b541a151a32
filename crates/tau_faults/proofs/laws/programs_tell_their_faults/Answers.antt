use Rattle.tau_faults.proofs.Telling.{told}
use Rattle.tau_faults.proofs.laws.programs_tell_their_faults.Goals as goal

pub returns : goal.returns
returns c = λ O P S seed from start faults others sound a b. told c.serial_run_is_unique.ensures c.scripts_are_determined.ensures c.scripts_are_local.ensures S seed O P from start faults others sound a b
