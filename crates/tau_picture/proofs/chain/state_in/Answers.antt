use Rattle.std.proofs.Common.{arith}
use Rattle.tau_picture.proofs.Showing.{none_of}
use Rattle.tau_picture.proofs.chain.state_in.Goals as goal

pub returns : goal.returns
returns c = none_of c.args.states.now c.args.point c.loop-seen.seen-index (omega (arith, c.loop-seen-test.false)) c.loop-seen.invariant
