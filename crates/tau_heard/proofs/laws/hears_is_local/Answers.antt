use Rattle.tau_heard.proofs.Places.{hears_is_local}
use Rattle.tau_heard.proofs.laws.hears_is_local.Goals as goal

pub returns : goal.returns
returns c = hears_is_local
