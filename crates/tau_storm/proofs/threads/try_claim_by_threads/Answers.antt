use Rattle.std.proofs.Common.{◌≡◌, List, Result, sym, subst, rules, arith}
use Rattle.std.specs.declared.alloc.AllocError.{AllocError}
use Rattle.std.proofs.lemmas.Result.{IfOk-weaker}
use Rattle.tau_storm.specs.declared.dealing.Deal.{Deal}
use Rattle.tau_storm.specs.declared.trials.TrialTold.{TrialTold}
use Rattle.tau_storm.specs.Inner.Claiming.{IsTrial, TellsTrial}
use Rattle.tau_storm.proofs.StormLemmas.{told_tried}
use Rattle.tau_storm.proofs.DealLemmas.{IsDealt, dealt_first, dealt_next, dealt_all}
use Rattle.tau_storm.proofs.threads.try_claim_by_threads.Goals as goal

pub loop-part-init : goal.loop-part-init
loop-part-init g c =
    let b = c.args.behaviour in
    let d : Deal = record { seed = c.args.seed; seeds = c.args.seeds; workers = c.args.workers } in
    let parts = c.in_ok-parts.parts.items in
    let same : c.into_iter-part-iterator.result.rest.items ≡ parts = search rules in
    subst (λ (rs : List (Result TrialTold AllocError)). IsDealt (IsTrial b) (TellsTrial b) c.args.setting.now c.args.program.now d rs c.new-trial.result) (sym same)
    (dealt_first (IsTrial b) (TellsTrial b) c.args.setting.now c.args.program.now d c.requires.some parts c.new-trial.result (search rules) (λ k r lt. (c.in_ok-parts.ensures.each k r lt).1.met) c.new-trial.ensures)

pub loop-part-preserved : goal.loop-part-preserved
loop-part-preserved g c =
    let b = c.args.behaviour in
    let d : Deal = record { seed = c.args.seed; seeds = c.args.seeds; workers = c.args.workers } in
    dealt_next (IsTrial b) (TellsTrial b) c.args.setting.now c.args.program.now d c.requires.some c.loop-part.part-iterator.rest.items c.next.new.self.rest.items c.in-Some.part c.in_ok-part.field-0 c.loop-part.trial c.append.new.self c.in-Some.ensures.steps.0 c.in_ok-part.was
    (c.in_ok-append.ensures b) c.loop-part.invariant

pub returns : goal.returns
returns g c =
    let S = c.args.setting.now in
    let P = c.args.program.now in
    let b = c.args.behaviour in
    let d : Deal = record { seed = c.args.seed; seeds = c.args.seeds; workers = c.args.workers } in
    let rest = c.loop-part.part-iterator.rest in
    let trial = c.loop-part.trial in
    let told = dealt_all (IsTrial b) (TellsTrial b) S P d c.requires.some rest.items trial (omega (arith, c.in-None.ensures.steps.0, rest.ok.0)) c.loop-part.invariant in
    record {
      tried =
          IfOk-weaker c.tried_of.result _ _ (λ t is. told_tried S P c.args.seed c.args.seeds b trial t told (is b)) c.tried_of.ensures;
    }
