use Rattle.tau_legal.proofs.ReceiverLemmas.{receivers_of_fitting}
use Rattle.tau_legal.proofs.rules.messages_have_receivers.Goals as goal

pub returns : goal.returns
returns c = receivers_of_fitting
