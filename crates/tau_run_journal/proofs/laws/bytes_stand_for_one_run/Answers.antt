use Rattle.tau_journal.proofs.Unique.{one_list}
use Rattle.tau_run_journal.proofs.Unique.{stands_once}
use Rattle.tau_run_journal.proofs.laws.bytes_stand_for_one_run.Goals as goal

pub returns : goal.returns
returns c = λ file P Q T U one two.
    stands_once one.records two.records P Q T U one.stand two.stand (one_list file one.records two.records one.are.0 two.are.0 one.are.1 two.are.1)
