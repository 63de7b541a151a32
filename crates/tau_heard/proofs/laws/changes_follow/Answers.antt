use Rattle.tau_heard.proofs.Following.{changes_follow}
use Rattle.tau_heard.proofs.laws.changes_follow.Goals as goal

pub returns : goal.returns
returns c = changes_follow
