use Rattle.tau_output.proofs.RunLemmas.{texts_tell_runs}
use Rattle.tau_output.proofs.laws.run_texts_tell.Goals as goal

pub returns : goal.returns
returns c = texts_tell_runs
