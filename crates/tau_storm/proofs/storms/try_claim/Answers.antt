use Rattle.std.proofs.lemmas.Result.{IfOk-weaker}
use Rattle.tau_storm.specs.Inner.Claiming.{IsTrial}
use Rattle.tau_storm.proofs.StormLemmas.{tells_seen, tells_weaker, told_tried}
use Rattle.tau_storm.proofs.storms.try_claim.Goals as goal

pub returns-clause-program : goal.returns-clause-program
returns-clause-program g c = IfOk-weaker c.tried_of.result _ _ (λ t is. c.in_ok-visit_seeds.ensures.program) c.tried_of.ensures

pub returns-clause-tried : goal.returns-clause-tried
returns-clause-tried g c =
    let S = c.args.setting.now in
    let P = c.args.program.now in
    let b = c.args.behaviour in
    let trial = c.visit_seeds.new.visitor in
    let seen = tells_seen (λ ends w. IsTrial b ends w.visitor) _ (λ old new e ends shows is. shows b ends is) S P c.args.seed c.args.seeds _ trial c.new.ensures c.in_ok-visit_seeds.ensures.ends in
    let told = tells_weaker (λ ends w. IsTrial b ends w.visitor) (IsTrial b) S P c.args.seed c.args.seeds trial trial.visitor (λ ends is. is) seen in
    IfOk-weaker c.tried_of.result _ _ (λ t is. told_tried S P c.args.seed c.args.seeds b trial.visitor t told (is b)) c.tried_of.ensures
