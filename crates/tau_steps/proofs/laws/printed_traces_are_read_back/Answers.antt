use Rattle.tau_steps.proofs.LawLemmas.{read_back}
use Rattle.tau_steps.proofs.laws.printed_traces_are_read_back.Goals as goal

pub returns : goal.returns
returns c = read_back
