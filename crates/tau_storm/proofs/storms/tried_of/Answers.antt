use Rattle.tau_storm.proofs.StormLemmas.{trial_tried}
use Rattle.tau_storm.proofs.storms.tried_of.Goals as goal

pub returns : goal.returns
returns c = λ behaviour ends is. trial_tried behaviour ends c.args.trial c.in_ok-told_of.field-0 c.in_ok-first_of.field-0 is c.in_ok-told_of.ensures c.in_ok-first_of.ensures
