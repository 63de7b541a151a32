use Rattle.std.proofs.Common.{IfOk, subst, sym, arith}
use Rattle.std.proofs.lemmas.Result.{IfOk-weaker}
use Rattle.tau_tree.specs.declared.programs.Program.{Program}
use Rattle.tau_trace.specs.Run.{Run, len}
use Rattle.tau_trace.specs.Known.{IsKnownAt}
use Rattle.tau_eval.specs.Effect.{eff_of}
use Rattle.tau_legal.specs.Turns.{TurnHas}
use Rattle.tau_legal.specs.Choices.{IsChoiceOf}
use Rattle.tau_legal.specs.declared.choices.Choice.{Choice}
use Rattle.tau_rules.specs.System.{Core}
use Rattle.tau_rules.specs.Inner.Acting.{step_of}
use Rattle.tau_rules.proofs.ActLemmasOfJobs.{turn_exists}
use Rattle.tau_rules.proofs.ActLemmasOfAnswers.{IsKept, choice_known}
use Rattle.tau_rules.proofs.system.System.choice.Goals as goal

pub chosen-requires-clause-exists : goal.chosen-requires-clause-exists
chosen-requires-clause-exists g c =
    let has = subst (λ (k : Core). TurnHas k.program k.run c.args.who (len k.run) (eff_of c.args.effect.now)) (sym c.self.view_is) c.requires in
    omega (arith, turn_exists c.self.inside.program.now c.self.inside.trace.run c.self.invariant.0.well_formed c.args.who (eff_of c.args.effect.now) has, c.self.invariant.0.states_hold.count)

pub returns-clause-known : goal.returns-clause-known
returns-clause-known g c =
    let P : Program = c.self.inside.program.now in
    let T : Run = c.self.inside.trace.run in
    let core : Core = record { program = P; run = T } in
    let has = subst (λ (k : Core). TurnHas k.program k.run c.args.who (len k.run) (eff_of c.args.effect.now)) (sym c.self.view_is) c.requires in
    let kept : IsKept core = record { sound = c.self.invariant.0.sound; well_formed = c.self.invariant.0.well_formed; fitting = c.self.invariant.0.fitting } in
    subst (λ (k : Core). IfOk c.chosen.result (λ (x : Choice). IsKnownAt k.run (len k.run) (step_of x))) c.self.view_is
    (IfOk-weaker c.chosen.result (IsChoiceOf T c.self.inside.states.records c.args.who (eff_of c.args.effect.now)) (λ x. IsKnownAt T (len T) (step_of x))
    (λ x h. choice_known core kept c.args.who x (h P c.self.invariant.0.states_hold has))
    c.chosen.ensures)
