use Rattle.tau_past.proofs.HeardLemmas.{holds_heard_at as the_law}
use Rattle.tau_past.proofs.known_laws.closed_sets_hold_what_was_heard.Goals as goal

pub returns : goal.returns
returns g c = the_law _
