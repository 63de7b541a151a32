use Rattle.std.proofs.Common.{subst}
use Rattle.tau_trace.specs.Run.{len}
use Rattle.tau_trace.specs.Known.{IsKnownAt}
use Rattle.tau_legal.specs.declared.choices.Choice.{Choice}
use Rattle.tau_legal.specs.Choices.{IsChoice}
use Rattle.tau_legal.proofs.VersionLemmas.{turn_in_version}
use Rattle.tau_rules.specs.Inner.Acting.{step_of}
use Rattle.tau_rules.proofs.RecordLemmas.{ending_keeps}
use Rattle.tau_rules.proofs.system.System.make_step.Goals as goal

pub append-requires-clause-known : goal.append-requires-clause-known
append-requires-clause-known g c = record {
  known = subst (λ (x : Choice). IsKnownAt c.args.self.now.run (len c.args.self.now.run) (step_of x)) c.in-GoesOn.is c.in_ok-step.ensures.known;
  version = turn_in_version c.args.self.now.run.opening.version c.in-GoesOn.step
      (subst (λ (x : Choice). IsChoice c.args.self.now.program c.args.self.now.run c.args.who x) c.in-GoesOn.is c.in_ok-step.ensures.choice).0.of_turn;
  few_steps = c.requires.few;
}

pub append-requires-in-Ends-clause-known : goal.append-requires-in-Ends-clause-known
append-requires-in-Ends-clause-known g c = record {
  known = subst (λ (x : Choice). IsKnownAt c.args.self.now.run (len c.args.self.now.run) (step_of x)) c.in-Ends.is c.in_ok-step.ensures.known;
  version = turn_in_version c.args.self.now.run.opening.version c.in-Ends.step
      (subst (λ (x : Choice). IsChoice c.args.self.now.program c.args.self.now.run c.args.who x) c.in-Ends.is c.in_ok-step.ensures.choice).0.of_turn;
  few_steps = c.requires.few;
}

pub append-requires-in-Ends-clause-change : goal.append-requires-in-Ends-clause-change
append-requires-in-Ends-clause-change g c =
    ending_keeps c.in-Ends.step (subst (λ (x : Choice). IsChoice c.args.self.now.program c.args.self.now.run c.args.who x) c.in-Ends.is c.in_ok-step.ensures.choice).1
