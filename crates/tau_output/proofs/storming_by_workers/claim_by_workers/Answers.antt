use Rattle.std.proofs.Common.{◌≡◌, ℕ, Option, Some, IfSome, subst}
use Rattle.std.specs.Prelude.{slice_get}
use Rattle.tau_tree.specs.Sound.{behaviour_names}
use Rattle.tau_faults.specs.declared.setting.Setting.{Setting}
use Rattle.tau_storm.specs.Storms.{HasTried}
use Rattle.tau_output.proofs.StormLemmas.{sound_first}
use Rattle.tau_output.proofs.storming_by_workers.claim_by_workers.Goals as goal

pub tell_trial-requires-clause-broken : goal.tell_trial-requires-clause-broken
tell_trial-requires-clause-broken g c =
    let t = c.in_ok-tried.tried in
    let n = c.args.numbers.now in
    let P = c.args.program.now in
    let told = subst (λ (S : Setting). HasTried S P n.seed n.seeds c.in-Some.behaviour t.told.outcomes t.told.totals t.broken) c.setting_of-setting.ensures c.in_ok-tried.ensures.tried in
    sound_first n P c.in-Some.behaviour t.told.outcomes t.told.totals t.broken c.requires.sound c.requires.setting told

pub returns-clause-tried : goal.returns-clause-tried
returns-clause-tried g c = λ bytes spelled.
    let t = c.in_ok-tried.tried in
    let n = c.args.numbers.now in
    let P = c.args.program.now in
    let told = subst (λ (S : Setting). HasTried S P n.seed n.seeds c.in-Some.behaviour t.told.outcomes t.told.totals t.broken) c.setting_of-setting.ensures c.in_ok-tried.ensures.tried in
    let named = subst (λ (b : Option ℕ). IfSome b (λ k. slice_get (behaviour_names P) k ≡ Some c.args.name.now)) c.in-Some.is c.behaviour_named.ensures.named in
    c.in_ok-tell_trial.ensures c.in-Some.behaviour c.args.name.now bytes named told spelled
