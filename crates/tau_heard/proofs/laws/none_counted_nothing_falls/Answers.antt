use Rattle.tau_heard.proofs.Counting.{none_counted_nothing_falls}
use Rattle.tau_heard.proofs.laws.none_counted_nothing_falls.Goals as goal

pub returns : goal.returns
returns c = none_counted_nothing_falls
