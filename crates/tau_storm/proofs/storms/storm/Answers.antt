use Rattle.std.proofs.lemmas.Result.{IfOk-weaker}
use Rattle.tau_storm.specs.Tables.{IsTable}
use Rattle.tau_storm.specs.Inner.Telling.{TellsEnds}
use Rattle.tau_storm.proofs.StormLemmas.{tells_seen, tells_weaker, told_outcomes}
use Rattle.tau_storm.proofs.storms.storm.Goals as goal

pub returns-clause-program : goal.returns-clause-program
returns-clause-program g c = IfOk-weaker c.told_of.result _ _ (λ t is. c.in_ok-visit_seeds.ensures.program) c.told_of.ensures

pub returns-clause-told : goal.returns-clause-told
returns-clause-told g c =
    let S = c.args.setting.now in
    let P = c.args.program.now in
    let table = c.visit_seeds.new.visitor in
    let told = tells_seen (λ ends w. IsTable ends w.visitor) _ (λ old new e ends shows is. shows ends is) S P c.args.seed c.args.seeds _ table c.new.ensures c.in_ok-visit_seeds.ensures.ends in
    IfOk-weaker c.told_of.result _ _
    (λ t is. told_outcomes S P c.args.seed c.args.seeds t (tells_weaker (λ ends w. IsTable ends w.visitor) TellsEnds S P c.args.seed c.args.seeds table t is told))
    c.told_of.ensures
