use Rattle.tau_views.proofs.JudgementLaws.{falls_alike, drops_alike}
use Rattle.tau_views.proofs.laws.falls_and_drops_agree.Goals as goal

pub returns-clause-falls : goal.returns-clause-falls
returns-clause-falls c = falls_alike

pub returns-clause-drops : goal.returns-clause-drops
returns-clause-drops c = drops_alike
