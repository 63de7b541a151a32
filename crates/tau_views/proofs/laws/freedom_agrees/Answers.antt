use Rattle.tau_views.proofs.JudgementLaws.{free_alike}
use Rattle.tau_views.proofs.laws.freedom_agrees.Goals as goal

pub returns : goal.returns
returns c = free_alike
