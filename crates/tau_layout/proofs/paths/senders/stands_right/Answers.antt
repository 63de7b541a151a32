use Rattle.tau_layout.proofs.Origins.{right_none, right_told}
use Rattle.tau_layout.proofs.paths.senders.stands_right.Goals as goal

pub returns-in_default : goal.returns-in_default
returns-in_default c = right_none c.args.layout.now c.args.who c.args.other c.in_default.ensures

pub returns : goal.returns
returns c = right_told c.args.layout.now c.args.who c.args.other c.in-Some.rank c.in-Some-rank.least c.requires.one c.in-Some.ensures c.in-Some-rank.ensures
