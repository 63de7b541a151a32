use Rattle.tau_storm.proofs.StormLemmas.{first_is}
use Rattle.tau_storm.proofs.storms.first_of.Goals as goal

pub returns : goal.returns
returns c = λ ends is. first_is ends c.in_ok-outcomes.outcomes c.into_first.result (c.in_ok-outcomes.ensures ends is) c.into_first.ensures
