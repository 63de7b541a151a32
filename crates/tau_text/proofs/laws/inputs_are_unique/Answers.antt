use Rattle.tau_text.proofs.FaultLemmas.{program_unique, run_unique, print_unique}
use Rattle.tau_text.proofs.laws.inputs_are_unique.Goals as goal

pub returns : goal.returns
returns c = record { program = program_unique c.args._bytes.now; run = run_unique c.args._bytes.now; print = print_unique c.args._bytes.now }
