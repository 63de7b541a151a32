use Rattle.std.proofs.Common.{arith}
use Rattle.tau_drawing.proofs.StateLemmas.{ordered}
use Rattle.tau_drawing.proofs.states.states.state_foot.Goals as goal

pub returns-clause-ordered : goal.returns-clause-ordered
returns-clause-ordered c = λ later. omega (arith, ordered c.args.layout.now c.args.state later, c.end_foot.ensures.foot)
