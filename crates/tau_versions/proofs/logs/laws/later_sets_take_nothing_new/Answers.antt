use Rattle.tau_versions.proofs.Taking.{later_sets_take_nothing_new}
use Rattle.tau_versions.proofs.logs.laws.later_sets_take_nothing_new.Goals as goal

pub returns : goal.returns
returns c = later_sets_take_nothing_new
