use Rattle.std.proofs.Common.{refl}
use Rattle.std.proofs.lemmas.Result.{on_ok_weaker}
use Rattle.tau_storm.proofs.StormLemmas.{trial_joined}
use Rattle.tau_storm.proofs.trials.Trial.append.Goals as goal

pub returns : goal.returns
returns c =
    on_ok_weaker c.append-2.result
    (λ broken behaviour ends more is told. trial_joined behaviour ends more c.args.self.now _ c.args.later refl c.in_ok-append.ensures broken is told)
    c.append-2.ensures
