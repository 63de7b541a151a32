use Rattle.std.proofs.Common.{sym, subst}
use Rattle.std.proofs.lemmas.Result.{IfOk-weaker}
use Rattle.tau_tree.specs.Sound.{Sound}
use Rattle.tau_trace.specs.Known.{WellFormed}
use Rattle.tau_legal.specs.Traces.{Fitting}
use Rattle.tau_eval.specs.Effect.{eff_of}
use Rattle.tau_eval.specs.Turn.{TurnSoFar}
use Rattle.tau_rules.specs.System.{Core}
use Rattle.tau_rules.specs.Answers.{IsActed, acted_by}
use Rattle.tau_rules.specs.Inner.Acting.{IsMade}
use Rattle.tau_rules.proofs.ActLemmasOfAnswers.{IsKept, effect_of_job, acted}
use Rattle.tau_rules.proofs.system.System.act_open.Goals as goal

pub make_step-requires-clause-effect : goal.make_step-requires-clause-effect
make_step-requires-clause-effect g c =
    effect_of_job c.args.self.now c.who.result (eff_of c.effect.result.now) c.args.pending.now (sym c.who.ensures) c.effect.ensures c.requires.is_open

pub returns-clause-ok : goal.returns-clause-ok
returns-clause-ok g c =
    let old : Core = c.args.self.now in
    let new : Core = c.make_step.new.self in
    let job : TurnSoFar = c.args.pending.now in
    let kept : IsKept old = record {
      sound = subst Sound c.program-program.ensures.program c.program-program.ensures.sound;
      well_formed = subst WellFormed c.trace-trace.ensures.run c.trace-trace.ensures.well_formed;
      fitting = subst (Fitting old.program) c.trace-trace.ensures.run c.trace-trace.ensures.fitting;
    } in
    IfOk-weaker c.make_step.result (IsMade old new c.who.result) (λ r. IsActed old new job (acted_by r))
    (acted old new kept c.requires.few c.who.result job (sym c.who.ensures) c.requires.is_open)
    c.make_step.ensures.ok
