use Rattle.std.proofs.Common.{subst, option_copied}
use Rattle.tau_states.specs.Opening.{opening_states}
use Rattle.tau_states.specs.Answers.{IsStateAfter}
use Rattle.tau_rules.specs.System.{Core}
use Rattle.tau_rules.proofs.system.System.state_of.Goals as goal

pub returns : goal.returns
returns g c =
    subst (λ (core : Core). IsStateAfter core.run (opening_states core.program.starts) c.args.who (option_copied c.state_of.result)) c.self.view_is (c.state_of.ensures c.self.inside.trace.run (opening_states c.self.inside.program.now.starts) c.self.invariant.0.states_hold)
