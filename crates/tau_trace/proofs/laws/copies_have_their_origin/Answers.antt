use Rattle.tau_trace.proofs.Once.{copies_have_their_origin}
use Rattle.tau_trace.proofs.laws.copies_have_their_origin.Goals as goal

pub returns : goal.returns
returns c = copies_have_their_origin
