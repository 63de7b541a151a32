use Rattle.std.proofs.Common.{subst}
use Rattle.tau_faults.specs.declared.setting.Setting.{Setting}
use Rattle.tau_storm.specs.Storms.{HasOutcomes}
use Rattle.tau_output.proofs.storming_by_workers.shown_by_workers.Goals as goal

pub show_outcome-requires-clause-told : goal.show_outcome-requires-clause-told
show_outcome-requires-clause-told g c =
    let t = c.in_ok-told.told in
    let n = c.args.numbers.now in
    subst (λ (S : Setting). HasOutcomes S c.args.program.now n.seed n.seeds t.outcomes t.totals) c.setting_of-setting.ensures c.in_ok-told.ensures.told
