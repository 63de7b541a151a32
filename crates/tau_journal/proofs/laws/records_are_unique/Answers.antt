use Rattle.tau_journal.proofs.Unique.{one_list}
use Rattle.tau_journal.proofs.laws.records_are_unique.Goals as goal

pub returns : goal.returns
returns c = record { law = λ rs qs gate by file one two. one_list file rs qs gate by one two }
