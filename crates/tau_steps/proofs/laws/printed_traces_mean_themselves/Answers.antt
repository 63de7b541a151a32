use Rattle.tau_steps.proofs.LawLemmas.{printed_trace}
use Rattle.tau_steps.proofs.laws.printed_traces_mean_themselves.Goals as goal

pub returns : goal.returns
returns c = printed_trace
