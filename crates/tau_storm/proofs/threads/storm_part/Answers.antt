use Rattle.std.proofs.lemmas.Result.{IfOk-weaker}
use Rattle.tau_storm.specs.Inner.Telling.{TellsEnds}
use Rattle.tau_storm.proofs.StormLemmas.{outcomes_told}
use Rattle.tau_storm.proofs.DealLemmas.{part_told}
use Rattle.tau_storm.proofs.threads.storm_part.Goals as goal

pub returns : goal.returns
returns g c =
    let S = c.args.setting.now in
    IfOk-weaker c.storm.result _ _
    (λ t has.
    part_told TellsEnds S c.args.program.now c.in_ok-own.own c.args.deal c.args.worker c.first.result c.count.result t c.in_ok-own.ensures c.first.ensures c.count.ensures
    (outcomes_told S c.in_ok-own.own c.first.result c.count.result t has))
    c.storm.ensures.told
