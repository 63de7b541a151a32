use Rattle.tau_past.proofs.HeardLemmas.{heard_with_sender as the_law}
use Rattle.tau_past.proofs.known_laws.messages_hear_with_their_sender.Goals as goal

pub returns : goal.returns
returns c = the_law
