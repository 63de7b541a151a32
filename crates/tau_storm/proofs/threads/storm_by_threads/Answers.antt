use Rattle.std.proofs.Common.{◌≡◌, List, Result, sym, subst, rules, arith}
use Rattle.std.specs.declared.alloc.AllocError.{AllocError}
use Rattle.std.proofs.lemmas.Result.{IfOk-weaker}
use Rattle.tau_storm.specs.declared.dealing.Deal.{Deal}
use Rattle.tau_storm.specs.declared.storms.Told.{Told}
use Rattle.tau_storm.specs.Tables.{IsTable}
use Rattle.tau_storm.specs.Inner.Telling.{TellsEnds}
use Rattle.tau_storm.proofs.StormLemmas.{tells_weaker, told_outcomes}
use Rattle.tau_storm.proofs.DealLemmas.{IsDealt, dealt_first, dealt_next, dealt_all}
use Rattle.tau_storm.proofs.threads.storm_by_threads.Goals as goal

pub loop-part-init : goal.loop-part-init
loop-part-init g c =
    let d : Deal = record { seed = c.args.seed; seeds = c.args.seeds; workers = c.args.workers } in
    let parts = c.in_ok-parts.parts.items in
    let same : c.into_iter-part-iterator.result.rest.items ≡ parts = search rules in
    subst (λ (rs : List (Result Told AllocError)). IsDealt IsTable TellsEnds c.args.setting.now c.args.program.now d rs c.new-table.result) (sym same)
    (dealt_first IsTable TellsEnds c.args.setting.now c.args.program.now d c.requires.some parts c.new-table.result (search rules) (λ k r lt. (c.in_ok-parts.ensures.each k r lt).1.met) c.new-table.ensures)

pub loop-part-preserved : goal.loop-part-preserved
loop-part-preserved g c =
    let d : Deal = record { seed = c.args.seed; seeds = c.args.seeds; workers = c.args.workers } in
    dealt_next IsTable TellsEnds c.args.setting.now c.args.program.now d c.requires.some c.loop-part.part-iterator.rest.items c.next.new.self.rest.items c.in-Some.part c.in_ok-part.field-0 c.loop-part.table c.append.new.self c.in-Some.ensures.steps.0 c.in_ok-part.was
    (λ ends more table told. c.in_ok-append.ensures ends more table told.0.are told.1) c.loop-part.invariant

pub returns : goal.returns
returns g c =
    let S = c.args.setting.now in
    let P = c.args.program.now in
    let d : Deal = record { seed = c.args.seed; seeds = c.args.seeds; workers = c.args.workers } in
    let rest = c.loop-part.part-iterator.rest in
    let told = dealt_all IsTable TellsEnds S P d c.requires.some rest.items c.loop-part.table (omega (arith, c.in-None.ensures.steps.0, rest.ok.0)) c.loop-part.invariant in
    record {
      told =
          IfOk-weaker c.told_of.result _ _
          (λ t is. told_outcomes S P c.args.seed c.args.seeds t (tells_weaker IsTable TellsEnds S P c.args.seed c.args.seeds c.loop-part.table t is told))
          c.told_of.ensures;
    }
