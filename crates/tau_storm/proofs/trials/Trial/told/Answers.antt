use Rattle.tau_storm.proofs.StormLemmas.{trial_told}
use Rattle.tau_storm.proofs.trials.Trial.told.Goals as goal

pub returns : goal.returns
returns c = λ behaviour ends is. trial_told behaviour ends c.args.self _ is c.in_ok-all.ensures c.in_ok-broken.ensures
