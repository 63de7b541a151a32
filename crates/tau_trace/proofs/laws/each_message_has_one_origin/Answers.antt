use Rattle.tau_trace.proofs.Once.{origin_is_one}
use Rattle.tau_trace.proofs.laws.each_message_has_one_origin.Goals as goal

pub returns : goal.returns
returns c = origin_is_one
