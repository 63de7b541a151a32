use Rattle.tau_history.proofs.Before.{later_preceded}
use Rattle.tau_history.proofs.laws.later_is_preceded.Goals as goal

pub returns : goal.returns
returns c = later_preceded
