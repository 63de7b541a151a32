use Rattle.tau_heard.proofs.Turns.{carried_stays}
use Rattle.tau_heard.proofs.laws.carried_stays.Goals as goal

pub returns : goal.returns
returns c = carried_stays
