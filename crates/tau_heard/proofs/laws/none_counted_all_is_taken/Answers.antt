use Rattle.tau_heard.proofs.Decisions.{none_counted_all_is_taken}
use Rattle.tau_heard.proofs.laws.none_counted_all_is_taken.Goals as goal

pub returns : goal.returns
returns c = none_counted_all_is_taken
