use Rattle.tau_layout.proofs.Ranks.{has_one_rank}
use Rattle.tau_picture.proofs.drawing.put_cause.Goals as goal

pub put_chain-requires-clause-ranks : goal.put_chain-requires-clause-ranks
put_chain-requires-clause-ranks c = has_one_rank c.args.trace.now.run c.requires.well_formed.opening c.args.layout.now c.requires.plan.lanes_are
