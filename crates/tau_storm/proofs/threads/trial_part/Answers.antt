use Rattle.std.proofs.lemmas.Result.{IfOk-weaker}
use Rattle.tau_storm.specs.Inner.Claiming.{IsTrial, TellsTrial}
use Rattle.tau_storm.proofs.StormLemmas.{tells_seen, tells_weaker}
use Rattle.tau_storm.proofs.DealLemmas.{part_told}
use Rattle.tau_storm.proofs.threads.trial_part.Goals as goal

pub returns : goal.returns
returns g c =
    let S = c.args.setting.now in
    let P = c.in_ok-own.own in
    let b = c.args.behaviour in
    let first = c.first.result in
    let count = c.count.result in
    let trial = c.visit_seeds.new.visitor in
    let seen = tells_seen (λ ends w. IsTrial b ends w.visitor) _ (λ old new e ends shows is. shows b ends is) S P first count _ trial c.new.ensures c.in_ok-visit_seeds.ensures.ends in
    IfOk-weaker c.told.result _ _
    (λ t is.
    part_told (TellsTrial b) S c.args.program.now P c.args.deal c.args.worker first count t c.in_ok-own.ensures c.first.ensures c.count.ensures
    (tells_weaker (λ ends w. IsTrial b ends w.visitor) (TellsTrial b) S P first count trial t (is b) seen))
    c.told.ensures
