use Rattle.tau_explain.proofs.Turning.{pushes_turned}
use Rattle.tau_explain.proofs.chains.turned.TurnedIncoming.push_incoming.Goals as goal

pub returns-clause-pushed : goal.returns-clause-pushed
returns-clause-pushed c = pushes_turned _ _ _ _ _ c.push_next.ensures
