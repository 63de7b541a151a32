use Rattle.std.proofs.lemmas.Result.{IfOk-weaker}
use Rattle.std.proofs.Common.{subst}
use Rattle.tau_faults.specs.declared.setting.Setting.{Setting}
use Rattle.tau_storm.specs.Storms.{HasOutcomes}
use Rattle.tau_output.proofs.storming_by_workers.outcomes_by_workers.Goals as goal

pub returns : goal.returns
returns g c =
    let t = c.in_ok-told.told in
    let n = c.args.numbers.now in
    let P = c.args.program.now in
    let told = subst (λ (S : Setting). HasOutcomes S P n.seed n.seeds t.outcomes t.totals) c.setting_of-setting.ensures c.in_ok-told.ensures.told in
    IfOk-weaker c.tell_outcomes.result _ _ (λ o tells bytes spelled. tells P bytes c.requires.sound told spelled) c.tell_outcomes.ensures
