use Rattle.tau_journal.proofs.Unique.{never_both}
use Rattle.tau_journal.proofs.laws.records_are_whole.Goals as goal

pub returns : goal.returns
returns c = record { law = λ rs gate at file one two. never_both file rs gate at one two }
