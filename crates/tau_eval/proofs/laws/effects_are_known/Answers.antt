use Rattle.tau_eval.proofs.KnownLemmas.{effects_known as the_law}
use Rattle.tau_eval.proofs.laws.effects_are_known.Goals as goal

pub returns : goal.returns
returns c = the_law
