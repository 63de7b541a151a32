use Rattle.tau_storm.proofs.DealLemmas.{seeds_append as the_law}
use Rattle.tau_storm.proofs.laws.seeds_follow_on.Goals as goal

pub returns : goal.returns
returns c = the_law
