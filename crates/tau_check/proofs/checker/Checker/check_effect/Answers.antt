use Rattle.tau_rules.specs.System.{Core}
use Rattle.tau_trace.specs.Run.{len}
use Rattle.tau_check.proofs.Endings.{is_made, not_made}
use Rattle.tau_check.proofs.TurnSteps.{turn_illegal, turn_goes_on}
use Rattle.tau_check.proofs.checker.Checker.check_effect.Goals as goal

pub returns-then-not-has_made : goal.returns-then-not-has_made
returns-then-not-has_made c =
    let old : Core = c.args.self.now.legal.system in
    let new : Core = c.act_open.new.self.system in
    turn_illegal old new c.args.pending c.args.step.now c.in_ok-reply.reply c.requires.asked c.requires.turn c.in_ok-reply.ensures.ok
    (not_made new.run c.length-place.result (len old.run) c.args.step.now c.has_made.result c.length-place.ensures c.has_made.ensures.made c.if-not-has_made.true)

pub returns : goal.returns
returns c =
    let old : Core = c.args.self.now.legal.system in
    let new : Core = c.act_open.new.self.system in
    turn_goes_on old new c.args.pending c.args.step.now c.in_ok-reply.reply c.args.self.now.jobs.items c.keep_after.new.jobs.items c.requires.asked c.has_made.ensures.well_formed c.has_made.ensures.legal c.requires.turn c.requires.others c.in_ok-reply.ensures.ok
    (is_made new.run c.length-place.result (len old.run) c.args.step.now c.has_made.result c.length-place.ensures c.has_made.ensures.made c.if-not-has_made.false)
    c.in_ok-keep_after.ensures
