use Rattle.tau_output.proofs.RunLemmas.{run_texts_accepted}
use Rattle.tau_output.proofs.laws.run_texts_are_accepted.Goals as goal

pub returns : goal.returns
returns c = run_texts_accepted
